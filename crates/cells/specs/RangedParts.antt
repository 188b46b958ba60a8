-- What reading's loops over records with ranges state, and how long the ranges are. No public function's contract
-- cites this.
use Rattle.std.specs.Prelude.{ℕ, zero, suc, ◌+◌, ◌*◌, ◌≡◌, Bool, List, [], ◌∷◌, ltb, length, refl}
use Rattle.std.proofs.Common.{arith, length-append}
use Rattle.records.specs.Bytes.{byte_at}
use Rattle.records.specs.Records.{node_at, link_at, junction_at}
use Rattle.cells.specs.Lists.{up_to}
use Rattle.cells.specs.Checks.{links_at, values_at}
use Rattle.cells.specs.Read.{links_from, links_in, values_from, values_in}
use Rattle.cells.specs.Paths.{path_link}

-- the range of record i, by its start and its count, is not within `len` entries
abbrev pub outside : (ℕ → ℕ) → (ℕ → ℕ) → ℕ → ℕ → Bool
outside start count len i = ltb len (start i + count i)

pub length_up_to : {A : Type 0} (f : ℕ → A) (n : ℕ) → length (up_to f n) ≡ n
unfolding up_to
length_up_to f zero = refl
length_up_to f (suc n) = omega (arith, length-append (up_to f n) (f n ∷ []), length_up_to f n)

-- a record's range holds as many as it has
pub length_links : (n l : List ℕ) (i : ℕ) → length (links_in n l i) ≡ links_at n i
unfolding links_in links_from
length_links n l i =
    length_up_to (λ k. path_link (link_at l (((node_at n (i * 40)).link_id + k) * 8))) (links_at n i)

pub length_values : (j h : List ℕ) (i : ℕ) → length (values_in j h i) ≡ values_at j i
unfolding values_in values_from
length_values j h i = length_up_to (λ k. byte_at h ((junction_at j (i * 12)).heightmap_ptr + k)) (values_at j i)
