-- What the parts of the call `set_sound` go by. No public function's contract cites them.
use Rattle.std.specs.Prelude.{ℕ, zero, suc, ◌≤◌, ◌<◌, ◌≡◌, Bool, true, false, not, ◌&&◌, ◌||◌, List, [], ◌∷◌, ltb}
use Rattle.std.specs.Prelude.{length, get_or, take, drop}
use Rattle.numbers.specs.Refusals.{Cause, when}
use Rattle.cells.specs.Lists.{every}
use Rattle.cells.specs.Cell.{Node, Cell, numbers}
use Rattle.cells.specs.Lookup.{first_with, is_some}
use Rattle.cells.specs.LookupCall.{numbers_in}
use Rattle.cells.specs.Memory.{over_limit}
use Rattle.cells.specs.Nodes.{number_at}
use Rattle.walks.specs.Sound.{sound}
use Rattle.walks.specs.SoundCall.{indexed}
use Rattle.sets.specs.Members.{cell_at, areas, member_for}
use Rattle.sets.specs.MemberList.{over_set}
use Rattle.sets.specs.SetRenumber.{is_member}
use Rattle.sets.specs.CellSet.{ynd_of, holds_list}
use Rattle.sets.specs.Leave.{start_of}
use Rattle.sets.specs.SetParts.{count_of, Holding, bare}
use Rattle.numbers.specs.declared.refusal.Refusal.TheVariants.{TooShort, AtLimit}
use Rattle.numbers.specs.declared.refusal.Lent.TheVariants as lent
use Rattle.cells.specs.declared.link.PathLink.{PathLink}
use Rattle.cells.specs.declared.node_entry.NodeEntry.{NodeEntry}
use Rattle.records.specs.declared.junction_ref.NodeJunctionRef.{NodeJunctionRef}

-- all of the first n
unfoldable pub all_below : (ℕ → Bool) → ℕ → Bool
all_below f zero = true
all_below f (suc n) = all_below f n && f n

-- ---- by cells: the links of all members that name the member k

abbrev pub link_meets : List Cell → ℕ → ℕ → PathLink → Bool
link_meets cs k i l = not (is_member k (member_for (areas cs) i l.area_id)) || is_some
    (first_with (numbers (cell_at cs k).nodes) l.node_id)

abbrev pub node_meets : List Cell → ℕ → ℕ → Node → Bool
node_meets cs k i n = every (link_meets cs k i) n.links

abbrev pub member_meets : List Cell → ℕ → ℕ → Bool
member_meets cs k i = every (node_meets cs k i) (cell_at cs i).nodes

-- the member k is sound, and the links of the members, as many as n, that name it name nodes of it
unfoldable pub judged_at : List Cell → ℕ → ℕ → Bool
judged_at cs n k = sound (cell_at cs k) && all_below (member_meets cs k) n

-- ---- by entries

-- a link of the member i: the member k has the numbers ks
unfoldable pub word_meets : List ℕ → ℕ → List ℕ → ℕ → PathLink → Bool
word_meets all k ks i l = not (is_member k (member_for all i l.area_id)) || is_some (first_with ks l.node_id)

unfoldable pub words_meet : List ℕ → ℕ → List ℕ → ℕ → List PathLink → NodeEntry → Bool
words_meet all k ks i links n = every (word_meets all k ks i) (take n.link_count (drop n.link_id links))

-- the numbers of the member k
unfoldable pub numbers_of : List (List ℕ) → List NodeEntry → ℕ → List ℕ
numbers_of ws nodes k = numbers_in (count_of 10 ws k) (drop (start_of 15 ws k) nodes)

unfoldable pub part_meets : List ℕ → List (List ℕ) → List NodeEntry → List PathLink → ℕ → ℕ → Bool
part_meets all ws nodes links k i =
    every (words_meet all k (numbers_of ws nodes k) i (take (count_of 11 ws i) (drop (start_of 16 ws i) links)))
    (take (count_of 10 ws i) (drop (start_of 15 ws i) nodes))

-- lists that hold the members, none over a limit
pub record SetHeld (ws : List (List ℕ)) (nodes : List NodeEntry) (links : List PathLink)
    (refs : List NodeJunctionRef) : Type 0 where
  pub few : length ws ≤ 9
  pub within : (i : ℕ) → i < length ws → over_limit (ynd_of (get_or ws i [])) ≡ false
  pub nodes_hold : Holding 10 15 ws (length nodes)
  pub links_hold : Holding 11 16 ws (length links)
  pub refs_hold : Holding 14 19 ws (length refs)

-- every number fits 16 bits, as its type in memory says
pub record ShortNumbers (nodes : List NodeEntry) : Type 0 where
  pub short : (j : ℕ) → j < length nodes → number_at nodes j < 65536

-- the scratch after the numbers of the first members were stored in it
unfoldable pub indexed_to : (ℕ → List ℕ) → ℕ → List ℕ → List ℕ
indexed_to numbers zero s = s
indexed_to numbers (suc k) s = indexed (numbers k) 0 (indexed_to numbers k s)

-- ---- the causes, by the entries and the lists' lengths

unfoldable pub entries_causes : List (List ℕ) → ℕ → ℕ → ℕ → ℕ → List Cause
entries_causes ws nodes links refs room =
    when (over_set (bare ws)) AtLimit
    ∷ when (not (holds_list 10 15 ws nodes)) (TooShort lent.Nodes)
    ∷ when (not (holds_list 11 16 ws links)) (TooShort lent.Links)
    ∷ when (not (holds_list 14 19 ws refs)) (TooShort lent.Refs)
    ∷ when (ltb room 65536) (TooShort lent.Scratch)
    ∷ []
