-- T-11, T-09: a round followed in a set of cells. A version 2 round says of which area it is: it starts in the member
-- of that area, and goes on as a crossing walk does.
use Rattle.std.specs.Prelude.{ℕ, List, Result, Ok, Err}
use Rattle.std.specs.Option.{ok_or}
use Rattle.numbers.specs.declared.refusal.Refusal.{Refusal}
use Rattle.numbers.specs.declared.refusal.Refusal.TheVariants.{OtherArea}
use Rattle.cells.specs.LookupCall.{place_of}
use Rattle.rounds.specs.declared.file.Version.{Version}
use Rattle.rounds.specs.declared.file.Version.TheVariants.{One, Two}
use Rattle.sets.specs.CellSet.{CellSet}
use Rattle.sets.specs.Crossing.{location}
use Rattle.sets.specs.CrossMember.{cross_member}
use Rattle.sets.specs.CrossingCall.{CrossingLeft, crossing_left}
use Rattle.sets.specs.Leave.{first_of_area}
use Rattle.sets.specs.MemberLookup.{start_in_member}

-- T-11: "It refuses with 19, on following a round .., when the area isn't the cell's": in a set, when it is no
-- member's. An empty member's area is 0; of two members of one area the first joined is meant (T-09). "a version 1
-- round belongs to the cell it is followed in": to the member that the caller names.
abbrev pub round_member : CellSet → Version → ℕ → Result ℕ Refusal
round_member y One j = Ok j
round_member y (Two area) j = ok_or (place_of (first_of_area y area)) OtherArea

-- what follows where there is a member, or a place; else the refusal, and the visited list as it was
abbrev pub from_member : Result ℕ Refusal → (ℕ → CrossingLeft) → List (List ℕ) → CrossingLeft
from_member (Ok j) walked visited = walked j
from_member (Err cause) walked visited = crossing_left (Err cause) visited

-- 19 "before 13". Then what finding the start's number in the member is refused for: 13 no such member; 14 and 7 a set
-- made by hand; 13 a number that no node of the member has (T-03). Then what the crossing walk is refused for.
unfoldable pub follow_in_set : CellSet → Version → ℕ → ℕ → List ℕ → List (List ℕ) → CrossingLeft
follow_in_set y v member start choices visited =
    from_member (round_member y v member)
    (λ j. from_member (start_in_member y j start) (λ p. cross_member y choices (location j p) visited) visited)
    visited
