-- T-13: what `printround` prints, of the bytes of its input. A refusal is the only line.
use Rattle.std.specs.Prelude.{ℕ, ◌+◌, ◌-◌, cond, List, [], ltb, length, take, drop, replicate}
use Rattle.records.specs.Bytes.{le32}
use Rattle.numbers.specs.Refusals.{Answer, number_of}
use Rattle.cells.specs.Memory.{Memory, memory}
use Rattle.cells.specs.NewYnd.{new_ynd}
use Rattle.cells.specs.Nodes.{no_entry, no_link, no_map, no_ref}
use Rattle.cells.specs.CellOf.{nodes_of}
use Rattle.cells.specs.Read.{read_of}
use Rattle.walks.specs.WalkCall.{WalkLeft}
use Rattle.walks.specs.declared.walk.Walked.{Walked}
use Rattle.rounds.specs.Round.{VersionLeft, version_read}
use Rattle.rounds.specs.Follow.{follow_version}
use Rattle.printround.specs.Text.{round_of, refused_of, bad_input}
use Rattle.std.specs.Prelude.{Result, Ok, Err}
use Rattle.numbers.specs.declared.refusal.Refusal.{Refusal}
use Rattle.rounds.specs.declared.file.VersionRound.{VersionRound}

-- "The program lends 1,024 nodes, 8,192 links, 256 junctions, 65,536 heightmap bytes, 1,024 refs, 65,536 choices and
-- 16,384 visited places": all of them zeros.
unfoldable pub lent : Memory
lent =
    memory new_ynd (replicate 1024 no_entry) (replicate 8192 no_link) (replicate 256 no_map) (replicate 65536 0)
    (replicate 1024 no_ref)

unfoldable pub choices_lent : List ℕ
choices_lent = replicate 65536 0

unfoldable pub visited_lent : List ℕ
visited_lent = replicate 16384 0

-- 19, 13, then what the walk refuses. The file's count is printed, however early the walk ends.
abbrev pub walked_of : Memory → ℕ → Result Walked Refusal → List ℕ → List ℕ
walked_of m choices (Ok w) visited = round_of (nodes_of m) choices w.end (take w.count visited)
walked_of m choices (Err r) visited = refused_of (number_of r)

abbrev pub walk_of : Memory → ℕ → WalkLeft → List ℕ
walk_of m choices l = walked_of m choices l.answer l.visited

-- the round file, of either version, and then the round
abbrev pub followed_of : Memory → Result VersionRound Refusal → List ℕ → List ℕ
followed_of m (Ok v) choices =
    walk_of m v.count (follow_version m v.version v.start (take v.count choices) visited_lent)
followed_of m (Err r) choices = refused_of (number_of r)

abbrev pub file_of : Memory → VersionLeft → List ℕ
file_of m l = followed_of m l.answer l.choices

abbrev pub unless_refused : Answer → List ℕ → List ℕ
unless_refused (Ok _) text = text
unless_refused (Err r) text = refused_of (number_of r)

-- "The section is read first, graphics empty."
unfoldable pub section_of : List ℕ → List ℕ → List ℕ
section_of section file =
    let l = read_of section [] lent in
    unless_refused l.answer (file_of l.memory (version_read file choices_lent))

-- "The section's length (four bytes), the system section, then a round file, 65,536 bytes in all at most"; "input over
-- the size, or ending inside the length or the stated section, prints `bad input`."
unfoldable pub printed : List ℕ → List ℕ
printed input =
    let stated = le32 input 0 in
    cond (ltb 65536 (length input)) bad_input
    (cond (ltb (length input) 4) bad_input
    (cond (ltb (length input - 4) stated) bad_input
    (section_of (take stated (drop 4 input)) (drop (4 + stated) input))))
