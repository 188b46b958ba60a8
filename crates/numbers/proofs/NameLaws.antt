-- The definitions of `specs/Names.antt`, as the code has them. Assumes nothing.
use Rattle.std.proofs.Common.{◌≡◌, ℕ, zero, suc, ◌+◌, ◌-◌, ◌*◌, ◌^◌, ◌<◌, ◌≤◌, Bool, true, false, cond, ◌&&◌, eqb}
use Rattle.std.proofs.Common.{List, [], ◌∷◌, length, get_or, take, drop, sym, refl, ap, ◌∙◌, le_of_suc-le-suc}
use Rattle.std.proofs.Common.{zero-lt-suc, not-suc-le-zero, arith, lit<, inl, inr, eq-eqb, ne_eqb, le-leb, lt-ltb}
use Rattle.std.proofs.Common.{le-ltb}
use borrow.Author.Tests.{lt-leb, eqb-true}
use lib.Seq.{drop-cons}
use native.Mathlib.Numerals.{add-one}
use Rattle.std.specs.Prelude.{Option, Some, None, Result, Ok, Err, decimal, nat_lt, ◌/◌, ◌%◌, ◌++◌}
use Rattle.std.specs.Option.{SomeIff}
use Rattle.std.specs.Result.{OkIff, result_ok}
use Rattle.std.specs.Char.{digit_value, to_ascii_lowercase}
use Rattle.std.specs.Str.{IsUtf8, IsAscii}
use Rattle.std.specs.Str.Parse.{AllDigits, IsNumeral, digits_value, digits_value_after, without_leading_plus}
use Rattle.std.specs.Str.Parse.{ParsesUnsigned}
use Rattle.std.proofs.lemmas.List.{take_rest}
use Rattle.std.proofs.lemmas.Str.{IsUtf8-from_ascii, digit_value_digit}
use Rattle.std.proofs.lemmas.Str.Parse.{digit_from_value}
use Rattle.std.proofs.lemmas.Fmt.{IsAscii-from_digits, decimal_digit, decimal_step}
use Rattle.std.proofs.lemmas.Bool.Decides.{nat_tests}
use Rattle.std.proofs.lemmas.Bool.{and_right, cases_lt}
use Rattle.numbers.specs.Names.{nodes, ynd, name_of_area, slash, base_from, base_of, lower, starts, digits_from}
use Rattle.numbers.specs.Names.{digits_of, parsed, area_of_base}

-- ---- a number of up to four digits
abbrev pub four : ℕ → List ℕ
four n =
    cond (nat_lt n 10) ((48 + n % 10) ∷ [])
    (cond (nat_lt n 100) ((48 + n / 10 % 10) ∷ (48 + n % 10) ∷ [])
    (cond (nat_lt n 1000) ((48 + n / 100 % 10) ∷ (48 + n / 10 % 10) ∷ (48 + n % 10) ∷ [])
    ((48 + n / 1000 % 10) ∷ (48 + n / 100 % 10) ∷ (48 + n / 10 % 10) ∷ (48 + n % 10) ∷ [])))

one_digit : (n m : ℕ) → n ≡ m → m < 10 → decimal n ≡ (48 + m % 10) ∷ []
one_digit n m e h = decimal_digit n (omega (arith, e)) ∙ ap (λ (d : ℕ). d ∷ []) (omega (arith, e))

-- one digit more, m being what stands before it
more : (n m : ℕ) (s : List ℕ) → 10 ≤ n → n < 10000 → m ≡ n / 10 → decimal m ≡ s → decimal n ≡ s ++ ((48 + n % 10) ∷ [])
more n m s l h e d =
    decimal_step n l (omega arith)
    ∙ ap (λ (k : ℕ). decimal k ++ ((48 + n % 10) ∷ [])) (sym e)
    ∙ ap (λ (t : List ℕ). t ++ ((48 + n % 10) ∷ [])) d

decimal_four : (n : ℕ) → n < 10000 → decimal n ≡ four n
decimal_four n h = elim (cases_lt n 10) [
  | inl a ↦ rw (lt-ltb n 10 a) (one_digit n n refl a)
  | inr a ↦ elim (cases_lt n 100) [
    | inl b ↦
        rw (le-ltb n 10 a, lt-ltb n 100 b)
        (more n (n / 10) _ a h refl (one_digit (n / 10) (n / 10) refl (omega arith)))
    | inr b ↦ elim (cases_lt n 1000) [
      | inl c ↦
          rw (le-ltb n 10 a, le-ltb n 100 b, lt-ltb n 1000 c)
          (more n (n / 10) _ a h refl
          (more (n / 10) (n / 100) _ (omega arith) (omega arith) (omega arith)
          (one_digit (n / 100) (n / 100) refl (omega arith))))
      | inr c ↦
          rw (le-ltb n 10 a, le-ltb n 100 b, le-ltb n 1000 c)
          (more n (n / 10) _ a h refl
          (more (n / 10) (n / 100) _ (omega arith) (omega arith) (omega arith)
          (more (n / 100) (n / 1000) _ (omega arith) (omega arith) (omega arith)
          (one_digit (n / 1000) (n / 1000) refl (omega arith)))))
    ]
  ]
]

pub area_name : (n : ℕ) → n < 1024 → name_of_area n ≡ nodes ++ four n ++ ynd
unfolding name_of_area
area_name n h = rw (decimal_four n (omega arith)) refl

-- ---- the base: what stands after the last slash
no_slash : (best s : List ℕ) → ((k : ℕ) → k < length s → slash (get_or s k 0) ≡ false) → base_from best s ≡ best
unfolding base_from
no_slash best [] h = refl
no_slash best (c ∷ cs) h = rw (h 0 (zero-lt-suc (length cs))) (no_slash best cs (λ k l. h (suc k) (omega arith)))

pub after_slash : (best s : List ℕ) (i : ℕ) → i < length s → slash (get_or s i 0) ≡ true
    → ((k : ℕ) → i < k → k < length s → slash (get_or s k 0) ≡ false) → base_from best s ≡ drop (i + 1) s
unfolding base_from
after_slash best [] i l e h = absurd (not-suc-le-zero l)
after_slash best (c ∷ cs) zero l e h = rw e (no_slash cs cs (λ k m. h (suc k) (zero-lt-suc k) (omega arith)))
after_slash best (c ∷ cs) (suc i) l e h =
    let next : suc (i + 1) ≡ suc i + 1 = omega arith in
    after_slash (cond (slash c) cs best) cs i (le_of_suc-le-suc l) e
    (λ k m n. h (suc k) (omega arith) (omega arith)) ∙ ap (λ (n : ℕ). drop n (c ∷ cs)) next

-- one byte after another, from a best candidate on
pub base_step : (best s : List ℕ) (i : ℕ) → i < length s
    → base_from best (drop i s) ≡ base_from (cond (slash (get_or s i 0)) (drop (i + 1) s) best) (drop (i + 1) s)
unfolding base_from
base_step best s i h =
    ap (base_from best) (drop-cons s i 0 h ∙ ap (λ (n : ℕ). get_or s i 0 ∷ drop n s) (sym (add-one i)))

pub base_whole : (s : List ℕ) → ((k : ℕ) → k < length s → slash (get_or s k 0) ≡ false) → s ≡ base_of s
base_whole s h = sym (no_slash s s h)

-- ---- a word
abbrev Same : List ℕ → List ℕ → ℕ → Type 0
Same s word k = lower (get_or s k 0) ≡ get_or word k 0

pub starts_short : (s word : List ℕ) → length s < length word → false ≡ starts s word
unfolding starts
starts_short s [] h = absurd (not-suc-le-zero h)
starts_short [] (d ∷ ds) h = refl
starts_short (c ∷ cs) (d ∷ ds) h = rw (← starts_short cs ds (le_of_suc-le-suc h))
    (sym (and_right (eqb (lower c) d) false refl))

starts_same : (s word : List ℕ) → length word ≤ length s → ((k : ℕ) → k < length word → Same s word k) → true
    ≡ starts s word
unfolding starts
starts_same [] [] h all = refl
starts_same (c ∷ cs) [] h all = refl
starts_same [] (d ∷ ds) h all = absurd (not-suc-le-zero h)
starts_same (c ∷ cs) (d ∷ ds) h all =
    rw (eq-eqb (lower c) d (all 0 (zero-lt-suc (length ds))))
    (starts_same cs ds (le_of_suc-le-suc h) (λ k l. all (suc k) (omega arith)))

starts_other : (s word : List ℕ) (k : ℕ) → k < length word → k < length s → (Same s word k → ⊥) → false ≡ starts s word
unfolding starts
starts_other s [] k h l d = absurd (not-suc-le-zero h)
starts_other [] (w ∷ ws) k h l d = absurd (not-suc-le-zero l)
starts_other (c ∷ cs) (w ∷ ws) zero h l d = rw (ne_eqb (lower c) w d) refl
starts_other (c ∷ cs) (w ∷ ws) (suc k) h l d =
    rw (← starts_other cs ws k (le_of_suc-le-suc h) (le_of_suc-le-suc l) d)
    (sym (and_right (eqb (lower c) w) false refl))

-- ASCII's lower case
lower_is : (c : ℕ) → to_ascii_lowercase c ≡ lower c
lower_is c = grind (arith, nat_tests)

pub starts_decided : (r : Bool) (s word : List ℕ) → length word ≤ length s
    → (r ≡ true → (k : ℕ) → k < length word → to_ascii_lowercase (get_or s k 0) ≡ get_or word k 0)
    → (r ≡ false → (k : ℕ) × (k < length word) × (to_ascii_lowercase (get_or s k 0) ≡ get_or word k 0 → ⊥)) → r
    ≡ starts s word
starts_decided true s word l same other = starts_same s word l (λ k h. sym (lower_is (get_or s k 0)) ∙ same refl k h)
starts_decided false s word l same other =
    let w = other refl in
    starts_other s word w.0 w.1 (omega (arith, w.1)) (λ e. w.2 (lower_is (get_or s w.0 0) ∙ e))

-- ---- a number, as `parse` reads it
pub parsed_plus : (t : List ℕ) → (length t ≡ 0 → ⊥) → get_or t 0 0 ≡ 43 → parsed t ≡ digits_of (drop 1 t)
unfolding digits_of parsed
parsed_plus [] h e = absurd (h refl)
parsed_plus (c ∷ cs) h e = ap (λ (b : Bool). cond b (digits_of cs) (digits_of (c ∷ cs))) (eq-eqb c 43 e)

pub ok_is : {A E : Type 0} (r : Result A E) (x : A) → result_ok r ≡ Some x → r ≡ Ok x
ok_is (Ok y) x h = cc
ok_is (Err e) x h = cc

pub err_is : {A E : Type 0} (r : Result A E) → result_ok r ≡ None → (e : E) × (r ≡ Err e)
err_is (Ok y) h = cc
err_is (Err e) h = (e, refl)

-- digits make a number no smaller
grows : (n : ℕ) (cs : List ℕ) → n ≤ digits_value_after 10 n cs
grows n [] = omega arith
grows n (c ∷ cs) = omega (arith, grows (n * 10 + digit_value c) cs)

same_iff : {P Q : Type 0} {v w : ℕ} (r : Option ℕ) → (P → Q) → (Q → P) → v ≡ w → SomeIff r P v → SomeIff r Q w
same_iff (Some x) f g e h = (f h.0, h.1 ∙ e)
same_iff None f g e h = λ q. h (g q)

abbrev Read : ℕ → List ℕ → Type 0
Read n cs = AllDigits 10 cs × (digits_value_after 10 n cs < 2 ^ 32)

reads : (n : ℕ) (cs : List ℕ) → n < 2 ^ 32 → SomeIff (digits_from n cs) (Read n cs) (digits_value_after 10 n cs)
unfolding digits_from
reads n [] h = ((tt, h), refl)
reads n (c ∷ cs) h = elim (cases_lt c 48) [
  | inl l ↦ rw (lt-leb 48 c l) (λ p. absurd (omega (arith, digit_from_value c p.0.0)))
  | inr k ↦ elim (cases_lt 57 c) [
    | inl l ↦ rw (le-leb 48 c k, lt-leb c 57 l) (λ p. absurd (omega (arith, digit_from_value c p.0.0)))
    | inr l ↦
        let m = n * 10 + (c - 48) in
        let e : digit_value c ≡ c - 48 = omega (arith, digit_value_digit c (k, l)) in
        elim (cases_lt 4294967295 m) [
          | inl o ↦ rw (le-leb 48 c k, le-leb c 57 l, lt-leb m 4294967295 o)
              (λ p. absurd (omega (arith, e, p.1, grows (n * 10 + digit_value c) cs)))
          | inr o ↦
              let next : m ≡ n * 10 + digit_value c = omega (arith, e) in
              let value : digits_value_after 10 m cs
              ≡ digits_value_after 10 (n * 10 + digit_value c) cs = ap (λ (x : ℕ). digits_value_after 10 x cs)
              next in
              rw (le-leb 48 c k, le-leb c 57 l, le-leb m 4294967295 o)
              (same_iff (digits_from m cs) (λ p. ((omega (arith, e), p.0), omega (arith, value, p.1)))
              (λ p. (p.0.1, omega (arith, value, p.1))) value
              (reads m cs (omega arith)))
        ]
  ]
]

abbrev Numeral : List ℕ → Type 0
Numeral cs = IsNumeral 10 cs × (digits_value 10 cs < 2 ^ 32)

numeral : (cs : List ℕ) → SomeIff (digits_of cs) (Numeral cs) (digits_value 10 cs)
unfolding digits_of
numeral [] = λ h. not-suc-le-zero h.0.0
numeral (c ∷ cs) = same_iff (digits_from 0 (c ∷ cs)) (λ p. ((zero-lt-suc (length cs), p.0), p.1))
    (λ p. (p.0.1, p.1)) refl (reads 0 (c ∷ cs) (lit< tt))

parses : (t : List ℕ) → SomeIff (parsed t) (Numeral (without_leading_plus t))
    (digits_value 10 (without_leading_plus t))
unfolding parsed digits_of
parses [] = λ h. not-suc-le-zero h.0.0
parses (c ∷ cs) = go (eqb c 43)
  where
    go : (b : Bool) → SomeIff (cond b (digits_of cs) (digits_of (c ∷ cs))) (Numeral (drop (cond b 1 0) (c ∷ cs)))
        (digits_value 10 (drop (cond b 1 0) (c ∷ cs)))
    go true = numeral cs
    go false = numeral (c ∷ cs)

pub parsed_is : {E : Type 0} (t : List ℕ) (r : Result ℕ E) → ParsesUnsigned 32 10 t r → result_ok r ≡ parsed t
parsed_is t r h = one _ _ (parsed t) r h (parses t)
  where
    one : (P : Type 0) (v : ℕ) {E : Type 0} (q : Option ℕ) (r : Result ℕ E) → OkIff r P v → SomeIff q P v
        → result_ok r ≡ q
    one P v (Some y) (Ok x) h k = ap Some (h.1 ∙ sym k.1)
    one P v None (Ok x) h k = absurd (k h.0)
    one P v (Some y) (Err e) h k = absurd (h k.0)
    one P v None (Err e) h k = refl

-- digits are ASCII, so what is no text is no number
ascii_text : (t : List ℕ) → AllDigits 10 (without_leading_plus t) → IsAscii t
ascii_text [] h = IsAscii-from_digits [] h
ascii_text (c ∷ cs) h = go (eqb c 43) refl h
  where
    go : (b : Bool) → eqb c 43 ≡ b → AllDigits 10 (drop (cond b 1 0) (c ∷ cs)) → IsAscii (c ∷ cs)
    go true e h zero = omega (arith, eqb-true c 43 e)
    go true e h (suc i) = IsAscii-from_digits cs h i
    go false e h i = IsAscii-from_digits (c ∷ cs) h i

pub parsed_text : (t : List ℕ) → (IsUtf8 t → ⊥) → None ≡ parsed t
parsed_text t h = none _ _ (parsed t) (parses t) (λ n. h (IsUtf8-from_ascii t (ascii_text t n.0.1)))
  where
    none : (P : Type 0) (v : ℕ) (q : Option ℕ) → SomeIff q P v → (P → ⊥) → None ≡ q
    none P v (Some x) k n = absurd (n k.0)
    none P v None k n = refl

-- ---- the base's three tests
abbrev three : Bool → Bool → Bool → List ℕ → Option ℕ
three x y z b = cond (x && y && z) (parsed (take (length b - 4 - 5) (drop 5 b))) None

module _ (b : List ℕ) where
  pub area_short : length b < 9 → area_of_base b ≡ None
  unfolding area_of_base starts
  area_short h = ap (λ (x : Bool). three x (starts b nodes) (starts (drop (length b - 4) b) ynd) b)
      (lt-leb 9 (length b) h)

  pub area_is : (y z : Bool) → 9 ≤ length b → starts b nodes ≡ y → starts (drop (length b - 4) b) ynd ≡ z
      → area_of_base b ≡ three true y z b
  unfolding area_of_base starts
  area_is y z h p q =
      ap (λ (x : Bool). three x (starts b nodes) (starts (drop (length b - 4) b) ynd) b) (le-leb 9 (length b) h)
      ∙ ap (λ (x : Bool). three true x (starts (drop (length b - 4) b) ynd) b) p
      ∙ ap (λ (x : Bool). three true y x b) q

  pub suffix_is : (z : Bool) → z ≡ starts (take (length b - (length b - 4)) (drop (length b - 4) b)) ynd
      → starts (drop (length b - 4) b) ynd ≡ z
  suffix_is z e = ap (λ (x : List ℕ). starts x ynd) (sym (take_rest b (length b - 4))) ∙ sym e

-- for the functions
pub ruleset area_laws = (area_short, area_is, suffix_is)

pub ruleset parsed_laws = (parsed_is, parsed_text, ok_is, err_is)
