-- Causes of refusal: document 01's number and place for each, and how a call's causes are listed. A call's causes are
-- a list, in document 01's order; the first that fits counts.
use Rattle.std.specs.Prelude.{ℕ, zero, suc, Bool, cond, List, [], ◌∷◌, Result, Ok, Err}
use Rattle.numbers.specs.declared.refusal.Array.{Array}
use Rattle.numbers.specs.declared.refusal.Array.TheVariants as array
use Rattle.numbers.specs.declared.refusal.Lent.{Lent}
use Rattle.numbers.specs.declared.refusal.Lent.TheVariants as lent
use Rattle.numbers.specs.declared.refusal.Refusal.{Refusal}
use Rattle.numbers.specs.declared.refusal.Refusal.TheVariants as refused

-- ---- numbers and places

-- 3: the arrays in the order of document 01
abbrev pub place_of_array : Array → ℕ
place_of_array array.Nodes = 0
place_of_array array.Links = 1
place_of_array array.Junctions = 2
place_of_array array.Heightmap = 3
place_of_array array.Refs = 4

-- 7: as the arrays, then the section, the scratch of renumbering, the new places; what a call fills and a round's file
-- or choices (T-01, T-03), the scratch of a path (T-06), the members of a set (T-09)
abbrev pub place_of_lent : Lent → ℕ
place_of_lent lent.Nodes = 0
place_of_lent lent.Links = 1
place_of_lent lent.Junctions = 2
place_of_lent lent.Heightmap = 3
place_of_lent lent.Refs = 4
place_of_lent lent.Section = 5
place_of_lent lent.Scratch = 6
place_of_lent lent.NewPlaces = 7
place_of_lent lent.List = 8
place_of_lent lent.PathScratch = 9
place_of_lent lent.Members = 10

-- the list that an array is read into
abbrev pub lent_of : Array → Lent
lent_of array.Nodes = lent.Nodes
lent_of array.Links = lent.Links
lent_of array.Junctions = lent.Junctions
lent_of array.Heightmap = lent.Heightmap
lent_of array.Refs = lent.Refs

abbrev pub number_of : Refusal → ℕ
number_of refused.SystemTooShort = 1
number_of refused.SystemTooLong = 2
number_of refused.GraphicsTooLong = 2
number_of (refused.BadArray a) = 3
number_of (refused.LinksOutside node) = 4
number_of (refused.ValuesOutside junction) = 5
number_of refused.TooManyNodes = 6
number_of refused.TooManyJunctions = 6
number_of (refused.TooShort l) = 7
number_of (refused.TooManyLinks node) = 8
number_of (refused.LinksStartTooHigh node) = 9
number_of (refused.ValuesStartTooHigh junction) = 10
number_of refused.TooManyRefs = 11
number_of refused.WrongSize = 12
number_of refused.NoSuchPlace = 13
number_of refused.AtLimit = 14
number_of refused.NoRoundFile = 15
number_of refused.WrongLength = 16
number_of refused.NoPath = 17
number_of refused.AreaTaken = 18
number_of refused.OtherArea = 19

-- 0 if none is named
abbrev pub place_of : Refusal → ℕ
place_of refused.SystemTooShort = 0
place_of refused.SystemTooLong = 0
place_of refused.GraphicsTooLong = 1
place_of (refused.BadArray a) = place_of_array a
place_of (refused.LinksOutside node) = node
place_of (refused.ValuesOutside junction) = junction
place_of refused.TooManyNodes = 0
place_of refused.TooManyJunctions = 1
place_of (refused.TooShort l) = place_of_lent l
place_of (refused.TooManyLinks node) = node
place_of (refused.LinksStartTooHigh node) = node
place_of (refused.ValuesStartTooHigh junction) = junction
place_of refused.TooManyRefs = 0
place_of refused.WrongSize = 0
place_of refused.NoSuchPlace = 0
place_of refused.AtLimit = 0
place_of refused.NoRoundFile = 0
place_of refused.WrongLength = 0
place_of refused.NoPath = 0
place_of refused.AreaTaken = 0
place_of refused.OtherArea = 0

-- ---- lists of causes

pub record Cause : Type 0 where
  pub fits : Bool
  pub refusal : Refusal

abbrev pub when : Bool → Refusal → Cause
when b r = record { fits = b; refusal = r }

-- what a call says that gives nothing but whether it is accepted
abbrev pub Answer : Type 0
Answer = Result Unit Refusal

abbrev pub done : Answer
done = Ok tt

-- the first cause that fits
abbrev pub decided : List Cause → Answer
decided [] = done
decided (c ∷ cs) = cond c.fits (Err c.refusal) (decided cs)

-- a call's answer, without what it gives
abbrev pub answered : {A : Type 0} → Result A Refusal → Answer
answered (Ok _) = done
answered (Err r) = Err r

-- a refusal where a test says so, or else what follows
abbrev pub refuse_if : {A : Type 0} → Bool → Refusal → Result A Refusal → Result A Refusal
refuse_if b r next = cond b (Err r) next

-- a refusal handed on, or else what follows
abbrev pub unless : {A : Type 0} → Answer → Result A Refusal → Result A Refusal
unless (Ok _) next = next
unless (Err r) next = Err r

-- the same where what follows goes by what is given
abbrev pub and_then : {A B : Type 0} → Result A Refusal → (A → Result B Refusal) → Result B Refusal
and_then (Ok x) next = next x
and_then (Err r) next = Err r

-- one cause for each of k places from i on
unfoldable pub each : (ℕ → Refusal) → (ℕ → Bool) → ℕ → ℕ → List Cause
each cause bad i zero = []
each cause bad i (suc k) = when (bad i) (cause i) ∷ each cause bad (suc i) k
