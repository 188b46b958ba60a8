-- A record that stands whole in an array is read from its own bytes alone; what was counted stands whole.
use Prim.Native.Nat.{ℕ, zero, suc, ◌+◌, ◌*◌, ◌/◌, ◌%◌, ◌≤◌, ◌<◌}
use native.Mathlib.Omega.{arith}
use mathlib.Core.Path.{◌≡◌, refl, ap, ◌∙◌}
use mathlib.Core.Bool.{Bool, true, false}
use mathlib.Core.List.{List, [], ◌∷◌, ◌++◌}
use lib.Dec.{ltb}
use lib.ListN.{length, get_or, take, drop, length-drop}
use lib.Seq.{take-suc}
use borrow.Author.Tests.{ltb-true, ltb-false}
use Rattle.std.proofs.Common.{add-zero}
use Rattle.std.proofs.lemmas.List.{get_or-take, get_or-drop}
use Rattle.std.specs.Prelude.{Result, Ok, Err}
use Rattle.numbers.specs.Refusals.{Answer, refuse_if, unless}
use Rattle.numbers.specs.declared.refusal.Refusal.{Refusal}
use Rattle.numbers.specs.declared.refusal.Refusal.TheVariants.{LinksOutside, ValuesOutside}
use Rattle.numbers.specs.declared.refusal.Refusal.TheVariants.{TooManyNodes, TooManyJunctions}
use Rattle.records.specs.Bytes.{byte_at, le16, number_at, signed16}
use Rattle.records.specs.Records.{node_at, link_at, junction_at, ref_at}
use Rattle.records.specs.StoredLaws.{node_same}
use Rattle.cells.specs.declared.counts.Counts.{Counts}
use Rattle.cells.specs.Checks.{scan, links_at, values_at, bad_node, bad_junction, nodes_scan, junctions_scan}
use Rattle.cells.specs.Checks.{counts_of, arrays_check}
use Rattle.cells.specs.Lists.{up_to}
use Rattle.cells.specs.Read.{values_from}
use Rattle.cells.proofs.Reading.ReadLaws.{if_told, holds}

-- heightmap values, bytes, that stand whole in their array
pub values_whole : (h : List ℕ) → ((k : ℕ) → k < length h → get_or h k 0 < 256) → (from n : ℕ) → from + n ≤ length h
    → take n (drop from h) ≡ values_from h from n
unfolding values_from up_to
values_whole h bytes from zero room = refl
values_whole h bytes from (suc n) room =
    let here : get_or h (from + n) 0 ≡ byte_at h (from + n) = let q = bytes (from + n) (omega arith) in omega arith in
    let long : n < length (drop from h) = omega (arith, length-drop from h) in
    take-suc (drop from h) n 0 long
    ∙ (λ i. values_whole h bytes from n (omega arith) i ++ ((get_or-drop from h n 0 ∙ here) i ∷ []))

-- ---- an accepted scan passed each place

here_or_later : (bad : ℕ → Bool) (i j : ℕ) → bad i ≡ false → (suc i ≤ j → bad j ≡ false) → i ≤ j → (b : Bool)
    → ltb i j ≡ b → bad j ≡ false
here_or_later bad i j here later h true t = later (let q : i < j = ltb-true i j t in omega arith)
here_or_later bad i j here later h false t = ap bad
    (let q : j ≤ i = ltb-false i j t in let same : j ≡ i = omega arith in same) ∙ here

pub scan_passed : (cause : ℕ → Refusal) (bad : ℕ → Bool) (i n : ℕ) → scan cause bad i n ≡ Ok tt
    → (j : ℕ) → i ≤ j → j < i + n → bad j ≡ false
unfolding scan
scan_passed cause bad i zero e j h lt = absurd (omega arith)
scan_passed cause bad i (suc n) e j h lt =
    let told = if_told (bad i) (cause i) (scan cause bad (suc i) n) tt e in
    here_or_later bad i j told.0 (λ later. scan_passed cause bad (suc i) n told.1 j later (omega arith)) h (ltb i j)
    refl

both_told : {A : Type 0} (a : Answer) (next : Result A Refusal) (x : A) → unless a next ≡ Ok x → (a ≡ Ok tt)
    × (next ≡ Ok x)
both_told (Err r) next x e = cc
both_told (Ok tt) next x e = (refl, e)

-- what accepted arrays say
scans : (n l j h r : List ℕ) (k : Counts) → arrays_check n l j h r ≡ Ok k
    → (nodes_scan n l ≡ Ok tt) × (junctions_scan j h ≡ Ok tt)
unfolding arrays_check
scans n l j h r k e =
    let all = Ok (counts_of n j r) in
    let scanned = unless (nodes_scan n l) (unless (junctions_scan j h) all) in
    let few_j = refuse_if (ltb 4096 (length j / 12)) TooManyJunctions scanned in
    let one = if_told (ltb 65536 (length n / 40)) TooManyNodes few_j k e in
    let two = if_told (ltb 4096 (length j / 12)) TooManyJunctions scanned k one.1 in
    let ns = both_told (nodes_scan n l) (unless (junctions_scan j h) all) k two.1 in
    (ns.0, (both_told (junctions_scan j h) all k ns.1).0)

-- each range is inside
pub node_range_inside : (n l j h r : List ℕ) (k : Counts) → arrays_check n l j h r ≡ Ok k
    → (i : ℕ) → i < k.nodes → (node_at n (i * 40)).link_id + links_at n i ≤ length l / 8
node_range_inside n l j h r k e i lt =
    let told = (scans n l j h r k e).0 in
    let few = ap (λ (x : Counts). x.nodes) (holds n l j h r k e).counts in
    let bad = bad_node n (length l / 8) in
    ltb-false (length l / 8) _ (scan_passed LinksOutside bad 0 (length n / 40) told i (omega arith)
    (omega (arith, few)))

pub junction_range_inside : (n l j h r : List ℕ) (k : Counts) → arrays_check n l j h r ≡ Ok k
    → (i : ℕ) → i < k.junctions → (junction_at j (i * 12)).heightmap_ptr + values_at j i ≤ length h
junction_range_inside n l j h r k e i lt =
    let told = (scans n l j h r k e).1 in
    let few = ap (λ (x : Counts). x.junctions) (holds n l j h r k e).counts in
    let bad = bad_junction j (length h) in
    ltb-false (length h) _ (scan_passed ValuesOutside bad 0 (length j / 12) told i (omega arith) (omega (arith, few)))
