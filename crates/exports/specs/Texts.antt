-- The library's version, and the text of each refusal as a caller in C gets it.
use Rattle.std.specs.Prelude.{ℕ, ◌+◌, ◌-◌, ◌*◌, cond, List, [], ◌∷◌, ◌++◌, codes, eqb, get_or, length, take}
use Rattle.records.specs.Put.{put}

-- ---- the version, as BOFRASHEM_VERSION_NUMBER of the header is made of its three parts
abbrev pub library_version : ℕ → ℕ → ℕ → ℕ
library_version major minor patch = major * 10000 + minor * 100 + patch

abbrev pub version : ℕ
version = library_version 1 2 0

-- ---- the texts

-- 0 first, then the causes of the table of refusals, in the order of their numbers, with "times" for ×
unfoldable pub texts : List (List ℕ)
texts =
    codes "accepted"
    ∷ codes "1 to 111 system bytes"
    ∷ codes "a section over 16,777,216 bytes"
    ∷ codes "an array's address or extent is bad"
    ∷ codes "a node's link start, or start plus count, over the list's length"
    ∷ codes "a junction's heightmap start, or start plus width times height, over the bytes' length"
    ∷ codes "more than 65,536 nodes or 4,096 junctions"
    ∷ codes "lent memory too short"
    ∷ codes "over 31 links on writing"
    ∷ codes "links before this node, which has links, over 65,535 on writing"
    ∷ codes "heightmap bytes before a junction over 65,535 on writing"
    ∷ codes "refs over 65,535 on writing"
    ∷ codes "heightmap values not width times height"
    ∷ codes "no such place or member, area not in the set, round's start that no node has, or grid number over 31"
    ∷ codes "over a limit: 65,536 nodes of cell or set, 4,096 junctions, 255 links a node, 9 members, 32-bit counts"
    ∷ codes "a round file's first five bytes aren't the mark and a version that the reader takes"
    ∷ codes "a round file under 9 bytes (version 2: 11), or not that plus its count; over 65,535 choices on writing"
    ∷ codes "no walk joins the two places"
    ∷ codes "the area is already in the set"
    ∷ codes "a version 2 round's area isn't the cell's"
    ∷ []

-- the text of a number; the second one is for every number that the table hasn't
unfoldable pub text_of : ℕ → List ℕ
unfolding texts
text_of number = get_or texts number (codes "no refusal has this number")

-- ---- what the caller's bytes hold afterwards

-- as much of the text as leaves room for the zero, and the zero
abbrev pub ended : List ℕ → ℕ → List ℕ
ended text room = take (room - 1) text ++ 0 ∷ []

-- these from the first byte on, and the later bytes as they were; no bytes stay none
unfoldable pub text_put : List ℕ → List ℕ → List ℕ
text_put text old = cond (eqb (length old) 0) old (put old 0 (ended text (length old)))
