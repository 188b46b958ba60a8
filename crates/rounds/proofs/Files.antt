-- What the calls on files leave, from what their parts leave.
-- Assumes nothing.
use Prim.Native.Nat.{ℕ, ◌+◌, ◌-◌, ◌%◌, ◌≤◌, ◌<◌}
use native.Mathlib.Omega.{arith}
use native.Mathlib.Nat.{le_of_eq}
use mathlib.Core.Bool.{Bool, true, false, ◌&&◌}
use mathlib.Core.Path.{◌≡◌, refl, sym, ap, ◌∙◌}
use mathlib.Core.List.{List, [], ◌∷◌, ◌++◌}
use lib.ListN.{length, get_or, take, drop, length-append, length-drop}
use lib.Seq.{take_all, drop-drop}
use borrow.Rule.Slice.PartMut.{put_mid}
use Rattle.std.proofs.Common.{append_assoc}
use lib.Dec.{ltb, eqb}
use borrow.Author.Tests.{lt-ltb, le-ltb, eq-eqb, ltb-false}
use Rattle.std.specs.List.{starts_with}
use Rattle.std.proofs.lemmas.Bool.Decides.{nat_tests}
use Rattle.records.specs.Bytes.{byte_at, le16, bytes16, number_bytes}
use Rattle.records.specs.Put.{put, put_in}
use Rattle.records.proofs.Puts.{length_put, put_fits, then}
use Rattle.numbers.proofs.Refusing.{not_refused, tests}
use Rattle.cells.proofs.Sequences.Tests.{by_test}
use Rattle.rounds.specs.Round.{rest_bytes, file_bytes, has_version, round_left, rest_read, written_left, written}
use Rattle.std.specs.Prelude.{Result, Ok, Err}
use Rattle.std.specs.Result.{OkIff, result_or}
use Rattle.numbers.specs.declared.refusal.Refusal.{Refusal}

-- ---- the mark and the version

regroup : (a b c d : Bool) → a && b && c && d ≡ (a && (b && (c && true))) && d
regroup true true true d = refl
regroup true true false d = refl
regroup true false c d = refl
regroup false b c d = refl

swap : (a b : ℕ) → eqb a b ≡ eqb b a
swap a b = grind (arith, nat_tests)

-- the mark RND
abbrev pub mark : List ℕ
mark = 82 ∷ 78 ∷ 68 ∷ []

module _ (v : ℕ) (s : List ℕ) where
  pub version_short : length s < 5 → false ≡ has_version v s
  unfolding has_version
  version_short h = rw (lt-ltb _ _ h)

  -- of a list of bytes
  pub version_is : 5 ≤ length s → ((i : ℕ) → get_or s i 0 < 256) → (r : Bool) → r ≡ starts_with eqb s mark
      → has_version v s ≡ r && eqb (le16 s 3) v
  unfolding has_version
  version_is h bytes r e =
      rw (le-ltb _ _ h, e) (regroup (eqb (byte_at s 0) 82) (eqb (byte_at s 1) 78) (eqb (byte_at s 2) 68)
      (eqb (le16 s 3) v) ∙ ap (λ (b : Bool). b && eqb (le16 s 3) v) (marked s h bytes))
    where
      same : (x k : ℕ) → x < 256 → eqb (x % 256) k ≡ eqb k x
      same x k h = let e : x % 256 ≡ x = omega arith in rw e (swap x k)

      marked : (s : List ℕ) → 5 ≤ length s → ((i : ℕ) → get_or s i 0 < 256)
          → eqb (byte_at s 0) 82 && (eqb (byte_at s 1) 78 && (eqb (byte_at s 2) 68 && true)) ≡ starts_with eqb s mark
      marked [] h bytes = absurd (omega arith)
      marked (a ∷ []) h bytes = absurd (omega arith)
      marked (a ∷ b ∷ []) h bytes = absurd (omega arith)
      marked (a ∷ b ∷ c ∷ s) h bytes = λ i. same a 82 (bytes 0) i
          && (same b 78 (bytes 1) i && (same c 68 (bytes 2) i && true))

-- ---- reading what follows the head

module _ (at : ℕ) (s choices : List ℕ) (count : ℕ) (counted : count ≡ le16 s (at + 2)) (whole : at + 4 ≤ length s)
    (exact : length s ≡ at + 4 + count) where
  exactly : length s ≡ at + 4 + le16 s (at + 2)
  exactly = exact ∙ ap (λ (k : ℕ). at + 4 + k) counted

  -- what an accepted file gives
  pub rest_is : count ≤ length choices
      → rest_read at s choices ≡ round_left (Ok (record { start = le16 s at; count = count }))
      (put choices 0 (drop (at + 4) s))
  unfolding rest_read
  rest_is h =
      let room : le16 s (at + 2) ≤ length choices = omega arith in
      rw (le-ltb _ _ whole, eq-eqb (length s) (at + 4 + le16 s (at + 2)) exactly, le-ltb _ _ room)
      (λ i. round_left (Ok (record { start = le16 s at; count = sym counted i })) (put choices 0 (drop (at + 4) s)))

  pub rest_held : count ≤ length choices → (start : ℕ) (new : List ℕ) → start ≡ le16 s at
      → new ≡ put_in choices 0 (take (length s - (at + 4)) (drop (at + 4) s))
      → round_left (Ok (record { start = start; count = count })) new ≡ rest_read at s choices
  rest_held h start new e f =
      let x = drop (at + 4) s in
      let long : length x ≡ count = omega (arith, length-drop (at + 4) s) in
      let all = take_all _ x (le_of_eq (length-drop (at + 4) s)) in
      let is-put : new ≡ put choices 0 x = f ∙ ap (put_in choices 0) all ∙ put_fits choices 0 x (omega (arith, long)) in
      (λ i. round_left (Ok (record { start = e i; count = count })) (is-put i)) ∙ sym (rest_is h)

-- ---- writing

two_bytes : (n : ℕ) → length (bytes16 n) ≡ 2
unfolding number_bytes
two_bytes n = refl

pub rest_long : (start count : ℕ) → length (rest_bytes start count) ≡ 4
unfolding rest_bytes number_bytes
rest_long start count = refl

-- bytes copied over those of a list from a place on
pub put_next : (l : List ℕ) (at k : ℕ) (x y : List ℕ) → x ≡ y → k ≡ length y → put_mid at k l x ≡ put l at y
unfolding put
put_next l at k x y e h = rw (e, h, drop-drop, append_assoc)

module _ (head : List ℕ) (start : ℕ) (choices : List ℕ) where
  -- the bytes before the choices
  pub front_long : length (head ++ rest_bytes start (length choices)) ≡ length head + 4
  front_long = length-append head (rest_bytes start (length choices)) ∙ omega (arith, rest_long start (length choices))

  pub file_long : length (file_bytes head start choices) ≡ length head + 4 + length choices
  unfolding file_bytes
  file_long = length-append (head ++ rest_bytes start (length choices)) choices ∙ omega (arith, front_long)

-- a number that goes into fewer bits, or else a refusal
module _ {E fits : Type 0} {n k : ℕ} (cause : Refusal) where
  pub held_in : (r : Result ℕ E) → OkIff r fits n → Ok k ≡ result_or r (Err cause) → fits × (k ≡ n)
  held_in (Ok v) h e = let same : k ≡ v = cc in (h.0, same ∙ h.1)
  held_in (Err v) h e = not_refused (sym e)

module _ (head : List ℕ) (start : ℕ) (choices file : List ℕ) where
  abbrev bytes : List ℕ
  bytes = file_bytes head start choices

  module _ (few : length choices ≤ 65535) where
    -- a round that the writer accepts
    pub write_is : length bytes ≤ length file
        → written head start choices file ≡ written_left (Ok (length bytes)) (put file 0 bytes)
    unfolding written
    write_is room = rw (le-ltb _ _ few, le-ltb _ _ room)

    -- the four parts, each in its place
    pub write_held : length head + 4 + length choices ≤ length file → (exit₁ exit₂ exit₃ exit₄ : List ℕ)
        → exit₁ ≡ put_in file 0 head → exit₂ ≡ put exit₁ (length head) (bytes16 start)
        → exit₃ ≡ put exit₂ (length head + 2) (bytes16 (length choices))
        → exit₄ ≡ put_in exit₃ (length head + 4) choices
        → written_left (Ok (length head + 4 + length choices)) exit₄ ≡ written head start choices file
    unfolding file_bytes rest_bytes
    write_held h exit₁ exit₂ exit₃ exit₄ e₁ e₂ e₃ e₄ =
        let s₂ = bytes16 start in
        let s₃ = bytes16 (length choices) in
        let two : (n : ℕ) → length (bytes16 n) ≡ 2 = two_bytes in
        let p₁ : exit₁ ≡ put file 0 head = e₁ ∙ put_fits file 0 head (omega arith) in
        let l₁ = ap length p₁ ∙ length_put file 0 head (omega arith) in
        let l₂ = ap length e₂ ∙ length_put exit₁ (length head) s₂ (omega (arith, two start, l₁)) in
        let l₃ = ap length e₃ ∙ length_put exit₂ (length head + 2) s₃ (omega (arith, two (length choices), l₁, l₂)) in
        let q₄ : exit₄ ≡ put exit₃ (length head + 4) choices
        = e₄ ∙ put_fits exit₃ (length head + 4) choices (omega (arith, l₁, l₂, l₃)) in
        let p₂ : exit₂ ≡ put file 0 (head ++ s₂) = then file exit₁ exit₂ 0 (length head) head s₂ p₁ e₂ (omega arith)
        (omega arith) in
        let long₂ : length (head ++ s₂) ≡ length head + 2 = length-append head s₂ ∙ omega (arith, two start) in
        let p₃ : exit₃ ≡ put file 0 ((head ++ s₂) ++ s₃) = then file exit₂ exit₃ 0 (length head + 2) (head ++ s₂) s₃
        p₂ e₃ (omega arith) (omega arith) in
        let long₃ : length ((head ++ s₂) ++ s₃) ≡ length head + 4 = length-append (head ++ s₂) s₃
        ∙ omega (arith, two (length choices)) in
        let p₄ : exit₄ ≡ put file 0 (((head ++ s₂) ++ s₃) ++ choices) = then file exit₃ exit₄ 0 (length head + 4)
        ((head ++ s₂) ++ s₃) choices p₃ q₄ (omega arith) (omega arith) in
        let whole : ((head ++ s₂) ++ s₃) ++ choices
        ≡ bytes = ap (λ (l : List ℕ). l ++ choices) (append_assoc head s₂ s₃) in
        let room : length bytes ≤ length file = omega (arith, file_long head start choices) in
        (λ i. written_left (Ok (sym (file_long head start choices) i)) ((p₄ ∙ ap (put file 0) whole) i))
        ∙ sym (write_is room)

  -- what is known where the writer has written
  pub record Wrote (n : ℕ) : Type 0 where
    pub long : n ≡ length bytes
    pub few : length choices ≤ 65535
    pub room : n ≤ length file
    pub stored : (written head start choices file).file ≡ put file 0 bytes

  pub wrote_is : (n : ℕ) → (written head start choices file).answer ≡ Ok n → Wrote n
  unfolding written
  wrote_is n h = by_test (ltb 65535 (length choices)) (λ e. not_refused (rw e at h)) (λ e.
      by_test (ltb (length file) (length bytes)) (λ f. not_refused (rw (e, f) at h)) (λ f.
      let same : ◌≡◌ {A = Result ℕ Refusal} (Ok (length bytes)) (Ok n) = rw (e, f) at h in
      let same-n : n ≡ length bytes = cc in
      let fits : length bytes ≤ length file = ltb-false _ _ f in
      record { long = same-n; few = ltb-false _ _ e; room = omega arith; stored = rw (e, f) }))

-- ---- the laws that each function goes by, for the check

pub ruleset read_laws = (tests, rest_held)

pub ruleset write_laws = (tests, file_long)
