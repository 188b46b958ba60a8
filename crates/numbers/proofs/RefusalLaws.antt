-- A refusal's number and place are one to one: they give the refusal back. Assumes nothing.
use Rattle.std.proofs.Common.{◌≡◌, ℕ, cond, eqb, List, [], ◌∷◌, get_or, refl, ap, sym, ◌∙◌}
use Rattle.numbers.specs.declared.refusal.Array.{Array}
use Rattle.numbers.specs.declared.refusal.Array.TheVariants as array
use Rattle.numbers.specs.declared.refusal.Lent.{Lent}
use Rattle.numbers.specs.declared.refusal.Lent.TheVariants as lent
use Rattle.numbers.specs.declared.refusal.Refusal.{Refusal}
use Rattle.numbers.specs.declared.refusal.Refusal.TheVariants as refused
use Rattle.numbers.specs.Refusals.{place_of_array, place_of_lent, number_of, place_of}

-- ---- back from a place
abbrev arrays : List Array
arrays = array.Nodes ∷ array.Links ∷ array.Junctions ∷ array.Heightmap ∷ array.Refs ∷ []

array_back : (a : Array) → get_or arrays (place_of_array a) array.Nodes ≡ a
array_back array.Nodes = refl
array_back array.Links = refl
array_back array.Junctions = refl
array_back array.Heightmap = refl
array_back array.Refs = refl

abbrev memories : List Lent
memories =
    lent.Nodes ∷ lent.Links ∷ lent.Junctions ∷ lent.Heightmap ∷ lent.Refs ∷ lent.Section ∷ lent.Scratch
    ∷ lent.NewPlaces ∷ lent.List ∷ lent.PathScratch ∷ lent.Members ∷ []

lent_back : (l : Lent) → get_or memories (place_of_lent l) lent.Nodes ≡ l
lent_back lent.Nodes = refl
lent_back lent.Links = refl
lent_back lent.Junctions = refl
lent_back lent.Heightmap = refl
lent_back lent.Refs = refl
lent_back lent.Section = refl
lent_back lent.Scratch = refl
lent_back lent.NewPlaces = refl
lent_back lent.List = refl
lent_back lent.PathScratch = refl
lent_back lent.Members = refl

-- ---- back from a number and a place
abbrev refusals : List (ℕ → Refusal)
refusals =
    (λ p. refused.SystemTooShort) ∷ (λ p. refused.SystemTooShort)
    ∷ (λ p. cond (eqb p 0) refused.SystemTooLong refused.GraphicsTooLong)
    ∷ (λ p. refused.BadArray (get_or arrays p array.Nodes))
    ∷ (λ p. refused.LinksOutside p)
    ∷ (λ p. refused.ValuesOutside p)
    ∷ (λ p. cond (eqb p 0) refused.TooManyNodes refused.TooManyJunctions)
    ∷ (λ p. refused.TooShort (get_or memories p lent.Nodes))
    ∷ (λ p. refused.TooManyLinks p)
    ∷ (λ p. refused.LinksStartTooHigh p)
    ∷ (λ p. refused.ValuesStartTooHigh p)
    ∷ (λ p. refused.TooManyRefs) ∷ (λ p. refused.WrongSize) ∷ (λ p. refused.NoSuchPlace) ∷ (λ p. refused.AtLimit)
    ∷ (λ p. refused.NoRoundFile) ∷ (λ p. refused.WrongLength) ∷ (λ p. refused.NoPath) ∷ (λ p. refused.AreaTaken)
    ∷ (λ p. refused.OtherArea) ∷ []

abbrev refusal_of : ℕ → ℕ → Refusal
refusal_of n p = get_or refusals n (λ _. refused.SystemTooShort) p

back : (r : Refusal) → refusal_of (number_of r) (place_of r) ≡ r
back refused.SystemTooShort = refl
back refused.SystemTooLong = refl
back refused.GraphicsTooLong = refl
back (refused.BadArray a) = ap refused.BadArray (array_back a)
back (refused.LinksOutside node) = refl
back (refused.ValuesOutside junction) = refl
back refused.TooManyNodes = refl
back refused.TooManyJunctions = refl
back (refused.TooShort l) = ap refused.TooShort (lent_back l)
back (refused.TooManyLinks node) = refl
back (refused.LinksStartTooHigh node) = refl
back (refused.ValuesStartTooHigh junction) = refl
back refused.TooManyRefs = refl
back refused.WrongSize = refl
back refused.NoSuchPlace = refl
back refused.AtLimit = refl
back refused.NoRoundFile = refl
back refused.WrongLength = refl
back refused.NoPath = refl
back refused.AreaTaken = refl
back refused.OtherArea = refl

-- two refusals with the same number and the same place are the same refusal
pub same_refusal : (r s : Refusal) → number_of r ≡ number_of s → place_of r ≡ place_of s → r ≡ s
same_refusal r s n p = sym (back r) ∙ (λ i. refusal_of (n i) (p i)) ∙ back s
