-- What is printed by what reading the section, reading the file and following the round answer.
use Prim.Native.Nat.{ℕ}
use mathlib.Core.Path.{◌≡◌, ap, ◌∙◌}
use mathlib.Core.List.{List, [], map}
use lib.ListN.{take}
use Rattle.numbers.specs.Refusals.{number_of}
use Rattle.cells.specs.declared.node_entry.NodeEntry.{NodeEntry}
use Rattle.cells.specs.declared.link.PathLink.{PathLink}
use Rattle.cells.specs.declared.junction_entry.JunctionEntry.{JunctionEntry}
use Rattle.records.specs.declared.junction_ref.NodeJunctionRef.{NodeJunctionRef}
use Rattle.cells.specs.CellOf.{node_with, nodes_of}
use Rattle.cells.specs.Memory.{Memory, memory, Left, left}
use Rattle.cells.specs.NewYnd.{new_ynd}
use Rattle.cells.specs.Read.{read_of}
use Rattle.cells.specs.declared.ynd.Ynd.{Ynd}
use Rattle.walks.specs.WalkCall.{WalkLeft, walk_left}
use Rattle.walks.specs.declared.walk.End.{End}
use Rattle.rounds.specs.Round.{VersionLeft, version_left, version_read}
use Rattle.rounds.specs.Follow.{follow_version}
use Rattle.rounds.specs.declared.file.Version.{Version}
use Rattle.printround.specs.Text.{round_of, refused_of}
use Rattle.printround.specs.Printed.{walk_of, file_of, section_of, unless_refused, lent, choices_lent}
use Rattle.printround.specs.Printed.{visited_lent}
use Rattle.std.specs.Prelude.{Ok, Err}
use Rattle.numbers.specs.declared.refusal.Refusal.{Refusal}

-- a round that ended, in a cell whose links are whatever its memory says
pub ended : (y : Ynd) (ns : List NodeEntry) (ls : List PathLink) (js : List JunctionEntry) (hs : List ℕ)
    (rs : List NodeJunctionRef) (count : ℕ) (e : End) (n : ℕ)
    (after shown text : List ℕ) (l : WalkLeft)
    → ((links : List PathLink) → text ≡ round_of (map (node_with links) (take y.node_count ns)) count e shown)
    → shown ≡ take n after → walk_left (Ok (record { end = e; count = n })) after ≡ l → text
    ≡ walk_of (memory y ns ls js hs rs) count l
unfolding nodes_of
ended y ns ls js hs rs count e n after shown text l said part is =
    let m = memory y ns ls js hs rs in
    said (take y.link_count ls)
    ∙ ap (round_of (nodes_of m) count e) part
    ∙ ap (walk_of m count) is

pub not_followed : (m : Memory) (count : ℕ) (r : Refusal) (after text : List ℕ) (l : WalkLeft)
    → text ≡ refused_of (number_of r) → walk_left (Err r) after ≡ l → text ≡ walk_of m count l
not_followed m count r after text l said is = said ∙ ap (walk_of m count) is

pub file_held : (m : Memory) (v : Version) (start count : ℕ) (after bs text : List ℕ) (l : VersionLeft)
    → text ≡ walk_of m count (follow_version m v start bs visited_lent) → bs ≡ take count after
    → version_left (Ok (record { version = v; start = start; count = count })) after ≡ l → text ≡ file_of m l
file_held m v start count after bs text l said part is =
    said
    ∙ ap (λ (x : List ℕ). walk_of m count (follow_version m v start x visited_lent)) part
    ∙ ap (file_of m) is

pub file_refused : (m : Memory) (r : Refusal) (after text : List ℕ) (l : VersionLeft)
    → text ≡ refused_of (number_of r) → version_left (Err r) after ≡ l → text ≡ file_of m l
file_refused m r after text l said is = said ∙ ap (file_of m) is

abbrev section_by : List ℕ → Left → List ℕ
section_by file l = unless_refused l.answer (file_of l.memory (version_read file choices_lent))

pub section_held : (section file text : List ℕ) (y : Ynd) (ns : List NodeEntry) (ls : List PathLink)
    (js : List JunctionEntry) (hs : List ℕ)
    (rs : List NodeJunctionRef) → text ≡ file_of (memory y ns ls js hs rs) (version_read file choices_lent)
    → left new_ynd (Ok y) ns ls js hs rs ≡ read_of section [] lent → text ≡ section_of section file
unfolding section_of
section_held section file text y ns ls js hs rs said is = said ∙ ap (section_by file) is

pub section_refused : (section file text : List ℕ) (r : Refusal) (ns : List NodeEntry) (ls : List PathLink)
    (js : List JunctionEntry) (hs : List ℕ)
    (rs : List NodeJunctionRef) → text ≡ refused_of (number_of r)
    → left new_ynd (Err r) ns ls js hs rs ≡ read_of section [] lent → text ≡ section_of section file
unfolding section_of
section_refused section file text r ns ls js hs rs said is = said ∙ ap (section_by file) is
