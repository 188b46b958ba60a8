-- Scans, sums and lists that grow.
use Prim.Native.Nat.{ℕ, zero, suc, ◌+◌, ◌-◌, ◌*◌, ◌≤◌, ◌<◌}
use mathlib.Core.Path.{◌≡◌, refl, sym, ap, ◌∙◌}
use mathlib.Core.Bool.{Bool, true, false, cond}
use mathlib.Core.List.{List, [], ◌∷◌, ◌++◌, append_assoc}
use native.Mathlib.Numerals.{add-one}
use native.Mathlib.Nat.{suc-mul, mul-le-mul}
use native.Mathlib.Omega.{arith}
use lib.ListN.{length, get_or, set, take, drop, length-append, length-take, length-drop}
use lib.Seq.{length-take-le, drop-cons, set_at, append_snoc, take_at, drop_at, drop-append-add, drop-drop}
use Rattle.cells.specs.Lists.{up_to, join_to, sum_to}
pub use Rattle.cells.specs.RangedParts.{length_up_to, length_links, length_values}
use borrow.Author.Tests.{ltb-false}
use lib.Dec.{ltb, leb}
use Rattle.records.specs.declared.section.Section.{Section}
use Rattle.records.specs.declared.section.Section.TheVariants.{System, Graphics}
use Rattle.records.specs.declared.section.Part.{Part}
use Rattle.records.specs.Sections.{extent, section_of, bytes_of}
use Rattle.cells.specs.declared.counts.Counts.{Counts}
use Rattle.cells.specs.Checks.{too_few, sizes_check}
use Rattle.cells.specs.Read.{room_check}
use Rattle.records.specs.Bytes.{byte_at}
use Rattle.records.specs.Records.{node_at, junction_at}
use Prim.Native.Nat.{◌/◌}
use Rattle.cells.specs.Checks.{scan, arrays_check, nodes_scan, junctions_scan, counts_of, links_at, values_at}
use Rattle.std.specs.Prelude.{Result, Ok, Err}
use Rattle.numbers.specs.Refusals.{Answer, refuse_if, unless}
use Rattle.numbers.specs.declared.refusal.Refusal.{Refusal}
use Rattle.numbers.specs.declared.refusal.Lent.TheVariants as lent
use Rattle.numbers.specs.declared.refusal.Refusal.TheVariants.{TooShort, SystemTooShort, SystemTooLong}
use Rattle.numbers.specs.declared.refusal.Refusal.TheVariants.{GraphicsTooLong, TooManyNodes, TooManyJunctions}

-- ---- a scan of n places, at place i

pub scan_hit : (cause : ℕ → Refusal) (bad : ℕ → Bool) (i n : ℕ) → i < n → bad i ≡ true → scan cause bad i (n - i)
    ≡ Err (cause i)
unfolding scan
scan_hit cause bad i n h t =
    ap (scan cause bad i) (let e : n - i ≡ suc (n - (i + 1)) = omega arith in e)
    ∙ ap (λ (b : Bool). refuse_if b (cause i) (scan cause bad (suc i) (n - (i + 1)))) t

pub scan_on : (cause : ℕ → Refusal) (bad : ℕ → Bool) (i n : ℕ) → i < n → bad i ≡ false → scan cause bad i (n - i)
    ≡ scan cause bad (i + 1) (n - (i + 1))
unfolding scan
scan_on cause bad i n h t =
    ap (scan cause bad i) (let e : n - i ≡ suc (n - (i + 1)) = omega arith in e)
    ∙ ap (λ (b : Bool). refuse_if b (cause i) (scan cause bad (suc i) (n - (i + 1)))) t
    ∙ ap (λ (k : ℕ). scan cause bad k (n - (i + 1))) (sym (add-one i))

pub scan_end : (cause : ℕ → Refusal) (bad : ℕ → Bool) (i n : ℕ) → n ≤ i → scan cause bad i (n - i) ≡ Ok tt
unfolding scan
scan_end cause bad i n h = ap (scan cause bad i) (let e : n - i ≡ 0 = omega arith in e)

pub scan_start : (cause : ℕ → Refusal) (bad : ℕ → Bool) (n : ℕ) → scan cause bad 0 n ≡ scan cause bad 0 (n - 0)
scan_start cause bad n = ap (scan cause bad 0) (omega arith)

-- ---- one place more

pub sum_next : (f : ℕ → ℕ) (i : ℕ) → sum_to f (i + 1) ≡ sum_to f i + f i
unfolding sum_to
sum_next f i = rw add-one

pub up_to_next : {A : Type 0} (f : ℕ → A) (i : ℕ) → up_to f (i + 1) ≡ up_to f i ++ (f i ∷ [])
unfolding up_to
up_to_next f i = rw add-one

pub join_to_next : {A : Type 0} (f : ℕ → List A) (i : ℕ) → join_to f (i + 1) ≡ join_to f i ++ f i
unfolding join_to
join_to_next f i = rw add-one

-- the joined lists are as long as their lengths say
pub length_join_to : {A : Type 0} (f : ℕ → List A) (g : ℕ → ℕ) → ((i : ℕ) → length (f i) ≡ g i) → (n : ℕ)
    → length (join_to f n) ≡ sum_to g n
unfolding join_to sum_to
length_join_to f g e zero = refl
length_join_to f g e (suc n) = omega (arith, length-append (join_to f n) (f n), length_join_to f g e n, e n)

pub sum_grows : (f : ℕ → ℕ) (i d : ℕ) → sum_to f i ≤ sum_to f (i + d)
sum_grows f i zero = omega (arith, ap (sum_to f) (let e : i + 0 ≡ i = omega arith in e))
sum_grows f i (suc d) = omega (
  arith,
  sum_grows f i d,
  sum_next f (i + d),
  ap (sum_to f)
      (let e : i + suc d ≡ i + d + 1 = omega arith in e),
)

-- a place among the first n has its part of their sum
pub sum_room : (f : ℕ → ℕ) (i n : ℕ) → i < n → sum_to f i + f i ≤ sum_to f n
sum_room f i n h =
    let e : i + 1 + (n - (i + 1)) ≡ n = omega arith in
    omega (arith, sum_next f i, sum_grows f (i + 1) (n - (i + 1)), ap (sum_to f) e)

-- ---- lists that grow in front of a lent list, by one entry or by several

pub add_one_entry : {A : Type 0} (m l₀ l : List A) (i : ℕ) (w z : A) → length m ≡ i → i < length l₀
    → l ≡ m ++ drop i l₀ → set l i w ≡ (m ++ (w ∷ [])) ++ drop (i + 1) l₀
add_one_entry m l₀ l i w z e h is-l =
    rw (is-l, drop-cons l₀ i z h, add-one)
    (set_at m (get_or l₀ i z) (drop (suc i) l₀) w i e ∙ sym (append_snoc m w (drop (suc i) l₀)))

pub add_entries : {A : Type 0} (m x l₀ l : List A) (h c : ℕ) → length m ≡ h → l ≡ m ++ drop h l₀ → take h l ++ x
    ++ drop (h + c) l ≡ (m ++ x) ++ drop (h + c) l₀
add_entries {A = A} m x l₀ l h c e is-l =
    rw is-l
    (ap (λ (y : List A). y ++ x ++ drop (h + c) (m ++ drop h l₀)) (take_at m (drop h l₀) h e)
    ∙ ap (λ (y : List A). m ++ x ++ y) (ap (λ (k : ℕ). drop (k + c) (m ++ drop h l₀)) (sym e)
    ∙ drop-append-add m (drop h l₀) c ∙ drop-drop c h l₀))

-- a turn of a loop that fills the places from 0 on
pub fill_turn : {A : Type 0} (f : ℕ → A) (l₀ : List A) (i : ℕ) (w : A) → i < length l₀ → w ≡ f i
    → set (up_to f i ++ drop i l₀) i w ≡ up_to f (i + 1) ++ drop (i + 1) l₀
fill_turn {A = A} f l₀ i w h e =
    ap (set (up_to f i ++ drop i l₀) i) e
    ∙ add_one_entry (up_to f i) l₀ _ i (f i) w (length_up_to f i) h refl
    ∙ ap (λ (y : List A). y ++ drop (i + 1) l₀) (sym (up_to_next f i))

-- ---- a part of a list stored over, and a whole one

pub part_stored : {A : Type 0} (f : ℕ → ℕ → List A) (ps new : List A) (held s c from count : ℕ) → s ≡ from → c
    ≡ count → held + count ≤ length ps
    → new ≡ f s (length (take (held + c - held) (drop held ps)))
    → take held ps ++ (new ++ drop (held + c - held) (drop held ps)) ≡ take held ps ++ f from count
    ++ drop (held + count) ps
part_stored {A = A} f ps new held s c from count es ec h en =
    let e : held + c - held ≡ count = omega arith in
    let left : count ≤ length (drop held ps) = simp length-drop (omega arith) in
    let long : length (take (held + c - held) (drop held ps))
    ≡ count = rw e (length-take-le count (drop held ps) left) in
    (λ i. take held ps ++ ((en ∙ (λ q. f (es q) (long q))) i ++ drop (e i) (drop held ps)))
    ∙ ap (λ (x : List A). take held ps ++ (f from count ++ x)) (drop-drop count held ps)
    ∙ sym (append_assoc (take held ps) (f from count) (drop (held + count) ps))

-- a turn of a loop that adds several entries: x after those of the places before
pub join_turn : {A : Type 0} (f : ℕ → List A) (g : ℕ → ℕ) → ((i : ℕ) → length (f i) ≡ g i)
    → (l₀ : List A) (i held : ℕ) → held ≡ sum_to g i
    → take held (join_to f i ++ drop held l₀) ++ f i ++ drop (held + g i) (join_to f i ++ drop held l₀)
    ≡ join_to f (i + 1) ++ drop (held + g i) l₀
join_turn {A = A} f g len l₀ i held is-held =
    add_entries (join_to f i) (f i) l₀ _ held (g i) (length_join_to f g len i ∙ sym is-held) refl
    ∙ ap (λ (y : List A). y ++ drop (held + g i) l₀) (sym (join_to_next f i))

-- ---- what an accepted answer tells

pub if_told : {A : Type 0} (b : Bool) (cause : Refusal) (next : Result A Refusal) (x : A) → refuse_if b cause next
    ≡ Ok x → (b ≡ false) × (next ≡ Ok x)
if_told true cause next x e = cc
if_told false cause next x e = (refl, e)

after_told : {A : Type 0} (a : Answer) (next : Result A Refusal) (x : A) → unless a next ≡ Ok x → next ≡ Ok x
after_told (Err r) next x e = cc
after_told (Ok tt) next x e = e

pub record Holds (n j r : List ℕ) (k : Counts) : Type 0 where
  pub few_nodes : length n / 40 ≤ 65536
  pub few_junctions : length j / 12 ≤ 4096
  pub counts : k ≡ counts_of n j r

pub holds : (n l j h r : List ℕ) (k : Counts) → arrays_check n l j h r ≡ Ok k → Holds n j r k
unfolding arrays_check
holds n l j h r k e =
    let all = Ok (counts_of n j r) in
    let scanned = unless (nodes_scan n l) (unless (junctions_scan j h) all) in
    let one = if_told (ltb 65536 (length n / 40)) TooManyNodes
    (refuse_if (ltb 4096 (length j / 12)) TooManyJunctions scanned) k e in
    let two = if_told (ltb 4096 (length j / 12)) TooManyJunctions scanned k one.1 in
    let last = after_told (junctions_scan j h) all k
    (after_told (nodes_scan n l) (unless (junctions_scan j h) all) k two.1) in
    record {
      few_nodes = ltb-false 65536 (length n / 40) one.0;
      few_junctions = ltb-false 4096 (length j / 12)
          two.0;
      counts = cc;
    }

-- lists that an accepted reading was lent hold what it reads
pub record Room (k : Counts) (nodes links junctions heights refs : ℕ) : Type 0 where
  pub nodes_fit : k.nodes ≤ nodes
  pub links_fit : k.links ≤ links
  pub junctions_fit : k.junctions ≤ junctions
  pub heights_fit : k.heights ≤ heights
  pub refs_fit : k.refs ≤ refs

pub room : (k : Counts) (nodes links junctions heights refs : ℕ)
    → room_check k nodes links junctions heights refs ≡ Ok tt → Room k nodes links junctions heights refs
unfolding room_check
room k nodes links junctions heights refs e =
    let t5 = refuse_if (ltb refs k.refs) (TooShort lent.Refs) (Ok tt) in
    let t4 = refuse_if (ltb heights k.heights) (TooShort lent.Heightmap) t5 in
    let t3 = refuse_if (ltb junctions k.junctions) (TooShort lent.Junctions) t4 in
    let t2 = refuse_if (ltb links k.links) (TooShort lent.Links) t3 in
    let e1 = if_told (ltb nodes k.nodes) (TooShort lent.Nodes) t2 tt e in
    let e2 = if_told (ltb links k.links) (TooShort lent.Links) t3 tt e1.1 in
    let e3 = if_told (ltb junctions k.junctions) (TooShort lent.Junctions) t4 tt e2.1 in
    let e4 = if_told (ltb heights k.heights) (TooShort lent.Heightmap) t5 tt e3.1 in
    let e5 = if_told (ltb refs k.refs) (TooShort lent.Refs) (Ok tt) tt e4.1 in
    record {
      nodes_fit = ltb-false nodes k.nodes e1.0;
      links_fit = ltb-false links k.links e2.0;
      junctions_fit = ltb-false junctions k.junctions e3.0;
      heights_fit = ltb-false heights k.heights e4.0;
      refs_fit = ltb-false refs k.refs e5.0;
    }

pub small : (s g : ℕ) → sizes_check s g ≡ Ok tt → (s ≤ 16777216) × (g ≤ 16777216)
unfolding sizes_check
small s g e =
    let e1 = if_told (ltb 16777216 s) SystemTooLong
    (refuse_if (ltb 16777216 g) GraphicsTooLong (refuse_if (too_few s) SystemTooShort (Ok tt))) tt e in
    let e2 = if_told (ltb 16777216 g) GraphicsTooLong (refuse_if (too_few s) SystemTooShort (Ok tt)) tt e1.1 in
    (ltb-false 16777216 s e1.0, ltb-false 16777216 g e2.0)

-- a part is no longer than both sections
cond_short : (b : Bool) (x : List ℕ) (m : ℕ) → length x ≤ m → length (cond b x []) ≤ m
cond_short true x m h = h
cond_short false x m h = omega arith

extent_short : (o k : ℕ) (l : List ℕ) → length (extent o k l) ≤ length l
unfolding extent
extent_short o k l = cond_short (leb (o + k) (length l)) (take k (drop o l)) (length l)
    (simp (length-take, length-drop) (omega arith))

pub part_short : (p : Part) (s g : List ℕ) (m : ℕ) → length s ≤ m → length g ≤ m → length (bytes_of p s g) ≤ m
unfolding bytes_of
part_short p s g m hs hg = go p.section
  where
    go : (k : Section) → length (extent p.offset p.len (section_of k s g)) ≤ m
    go System = omega (arith, extent_short p.offset p.len s)
    go Graphics = omega (arith, extent_short p.offset p.len g)

pub sum_below : (f : ℕ → ℕ) (most : ℕ) → ((i : ℕ) → f i ≤ most) → (n : ℕ) → sum_to f n ≤ n * most
unfolding sum_to
sum_below f most h zero = omega arith
sum_below f most h (suc n) = omega (arith, sum_below f most h n, h n, suc-mul n most)

links_few : (n : List ℕ) (i : ℕ) → links_at n i ≤ 31
unfolding node_at
links_few n i = omega arith

values_few : (j : List ℕ) (i : ℕ) → values_at j i ≤ 65025
unfolding junction_at
values_few j i =
    let w : byte_at j (i * 12 + 10) ≤ 255 = omega arith in
    let h : byte_at j (i * 12 + 11) ≤ 255 = omega arith in
    mul-le-mul w h

module _ (n j r : List ℕ) (k : Counts) (h : Holds n j r k) where
  pub nodes_few : k.nodes ≤ 65536
  nodes_few = omega (arith, ap (λ (x : Counts). x.nodes) h.counts, h.few_nodes)

  pub junctions_few : k.junctions ≤ 4096
  junctions_few = omega (arith, ap (λ (x : Counts). x.junctions) h.counts, h.few_junctions)

  pub refs_few : length r ≤ 16777216 → k.refs ≤ 16777216
  refs_few q = omega (arith, ap (λ (x : Counts). x.refs) h.counts)

  pub links_sum : sum_to (links_at n) k.nodes ≡ k.links
  links_sum = ap (λ (x : Counts). sum_to (links_at n) x.nodes) h.counts ∙ sym (ap (λ (x : Counts). x.links) h.counts)

  pub heights_sum : sum_to (values_at j) k.junctions ≡ k.heights
  heights_sum = ap (λ (x : Counts). sum_to (values_at j) x.junctions) h.counts
      ∙ sym (ap (λ (x : Counts). x.heights) h.counts)

  pub links_fit_word : k.links < 4294967296
  links_fit_word = omega (arith, links_sum, sum_below (links_at n) 31 (links_few n) k.nodes, nodes_few)

  pub heights_fit_word : k.heights < 4294967296
  heights_fit_word = omega (
    arith,
    heights_sum,
    sum_below (values_at j) 65025 (values_few j) k.junctions,
    junctions_few,
  )

-- ---- each record's own part of the lists that are read

pub record Split {A : Type 0} (l before own : List A) : Type 0 where
  pub behind : List A
  pub is : l ≡ before ++ (own ++ behind)

-- the lists joined, place i's among them
pub joined_split : {A : Type 0} (f : ℕ → List A) (i d : ℕ) (rest : List A)
    → Split (join_to f (i + 1 + d) ++ rest) (join_to f i) (f i)
joined_split {A = A} f i zero rest = record {
  behind = rest;
  is = ap (λ (k : ℕ). join_to f k ++ rest) (let e : i + 1 + 0 ≡ i + 1 = omega arith in e)
      ∙ ap (λ (x : List A). x ++ rest) (join_to_next f i) ∙ append_assoc (join_to f i) (f i) rest;
}
joined_split {A = A} f i (suc d) rest =
    let s = joined_split f i d (f (i + 1 + d) ++ rest) in
    record {
      behind = s.behind;
      is = ap (λ (k : ℕ). join_to f k ++ rest) (let e : i + 1 + suc d ≡ i + 1 + d + 1 = omega arith in e)
          ∙ ap (λ (x : List A). x ++ rest) (join_to_next f (i + 1 + d))
          ∙ append_assoc (join_to f (i + 1 + d)) (f (i + 1 + d)) rest ∙ s.is;
    }

-- a node's range in memory holds the links that the file gives it: with f = links_in n l and g = links_at n;
-- likewise a junction's values
pub own_part : {A : Type 0} (f : ℕ → List A) (g : ℕ → ℕ) → ((i : ℕ) → length (f i) ≡ g i)
    → (n i : ℕ) (rest : List A) → i < n
    → take (g i) (drop (sum_to g i) (join_to f n ++ rest)) ≡ f i
own_part {A = A} f g len n i rest h =
    let e : i + 1 + (n - (i + 1)) ≡ n = omega arith in
    let s = joined_split f i (n - (i + 1)) rest in
    ap (λ (x : List A). take (g i) (drop (sum_to g i) x)) (sym (ap (λ (k : ℕ). join_to f k ++ rest) e) ∙ s.is)
    ∙ ap (take (g i)) (drop_at (join_to f i) (f i ++ s.behind) (sum_to g i) (length_join_to f g len i))
    ∙ take_at (f i) s.behind (g i) (len i)
