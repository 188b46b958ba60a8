-- T-13: after any list of renumberings and write-then-reads of a sound cell the printed round of the same walk differs
-- in the numbers of nodes only, and once renumbered they are the nodes' places.
use lib.Seq.{take_at}
use Prim.Native.Nat.{ℕ, suc, ◌<◌}
use native.Mathlib.Omega.{arith}
use mathlib.Core.Path.{◌≡◌, refl, sym, ap, ◌∙◌}
use mathlib.Core.Bool.{Bool, true, false, cond}
use mathlib.Core.List.{List, [], ◌∷◌, ◌++◌, map}
use lib.Dec.{ltb}
use lib.ListN.{length, take, drop, length-map}
use Rattle.std.specs.Prelude.{Ok, Err, Some, Result}
use Rattle.numbers.specs.Positions.{quantised}
use Rattle.numbers.specs.Refusals.{Answer}
use Rattle.numbers.specs.declared.refusal.Refusal.{Refusal}
use Rattle.numbers.specs.declared.refusal.Refusal.TheVariants.{TooShort}
use Rattle.numbers.specs.declared.refusal.Lent.TheVariants as lent
use Rattle.numbers.specs.declared.position.Quantised.{Quantised}
use Rattle.cells.specs.Cell.{Node, Cell, node_at, first_of}
use Rattle.cells.specs.declared.node_entry.NodeEntry.{NodeEntry}
use Rattle.cells.specs.CellOf.{nodes_of, cell_of}
use Rattle.cells.specs.EntryForms.{metres_in}
use Rattle.cells.specs.FileCell.{file_cell}
use Rattle.cells.specs.Memory.{Memory}
use Rattle.cells.specs.Read.{read_of}
use Rattle.cells.proofs.Reading.FileRead.{read_cell}
use Rattle.cells.proofs.WritingBack.Kept.{read_kept}
use Rattle.walks.specs.Sound.{sound}
use Rattle.walks.specs.Walk.{Next, to, stop, next, Seen, see}
use Rattle.walks.specs.WalkCall.{Route, step_on, route, WalkLeft, walk_left}
use Rattle.walks.specs.Calls.{Call, run, moved, any_renumbers}
use Rattle.walks.specs.declared.walk.Walked.{Walked}
use Rattle.walks.proofs.NewSound.{Sound, sound_parts}
use Rattle.walks.proofs.NewWalks.{AllNext, next_new}
use Rattle.walks.proofs.CallLists.{Fit, run_alike, run_numbers}
use Rattle.walks.proofs.Routes.{move_route, alike_route}
use Rattle.walks.proofs.WalksAlike.{Lies, read_lies, route_left}
use Rattle.rounds.specs.Round.{unless}
use Rattle.rounds.specs.Follow.{area_answer, follow_version}
use Rattle.rounds.specs.Numbers.{number_at, present_number}
use Rattle.rounds.specs.declared.file.Version.{Version}
use Rattle.rounds.specs.declared.file.VersionRound.{VersionRound}
use Rattle.rounds.proofs.VersionsUnnoticed.{followed_first, followed_now, same_seen, still_inside, area_kept}
use Rattle.printround.specs.Text.{head_of, line_text, steps_of, line_of, lines_of, end_of, round_of}
use Rattle.printround.specs.Printed.{walked_of, walk_of, followed_of, visited_lent}
use Rattle.printround.specs.SameRound.{lines_with, round_with, walk_text, walk_text_with, walked_with, followed_with}
use Rattle.printround.specs.SameRound.{file_with, SameRound, SamePrintedRounds}

-- with their own numbers the lines are the lines
pub own_lines : (ns : List Node) (k : ℕ) (ps : List ℕ)
    → lines_with (λ p. (node_at ns p).number) ns k ps ≡ lines_of ns k ps
unfolding lines_with lines_of line_of
own_lines ns k [] = refl
own_lines ns k (p ∷ ps) = ap (λ (rest : List ℕ). line_of k (node_at ns p) ++ rest) (own_lines ns (suc k) ps)

-- and so the texts are the texts
pub own_text : (ns : List Node) (choices : List ℕ) (count start : ℕ)
    → walk_text_with (λ p. (node_at ns p).number) ns choices count start ≡ walk_text ns choices count start
own_text ns choices count start =
    let r = route ns choices start in
    ap (λ (l : List ℕ). head_of (first_of ns) count ++ l ++ end_of r.ending) (own_lines ns 0 r.places)

pub own_print : (m : Memory) (v : VersionRound) (choices : List ℕ)
    → followed_with (number_at m) m v choices ≡ followed_of m (Ok v) choices
own_print m v choices =
    let l = follow_version m v.version v.start (take v.count choices) visited_lent in go l.answer l.visited
  where
    go : (a : Result Walked Refusal) (visited : List ℕ)
        → walked_with (number_at m) m v.count a visited ≡ walked_of m v.count a visited
    go (Ok w) visited =
        ap (λ (l : List ℕ). head_of (first_of (nodes_of m)) v.count ++ l ++ end_of w.end)
        (own_lines (nodes_of m) 0 (take w.count visited))
    go (Err r) visited = refl

-- ---- the lines of a walk's places, in the nodes ds to which f moves the nodes of the cell c

module _ (c : Cell) (s : Sound c) (ds : List Node) (f numbers : ℕ → ℕ)
    (steps : (q : ℕ) → q < length c.nodes → steps_of (node_at ds (f q)) ≡ steps_of (node_at c.nodes q))
    (named : (q : ℕ) → q < length c.nodes → (node_at ds (f q)).number ≡ numbers q) where
  line_alike : (k q : ℕ) → q < length c.nodes
      → line_of k (node_at ds (f q)) ≡ line_text k (numbers q) (steps_of (node_at c.nodes q))
  unfolding line_of
  line_alike k q lt i = line_text k (named q lt i) (steps q lt i)

  lines_alike : (bs : List ℕ) (k p : ℕ) → p < length c.nodes
      → lines_of ds k (map f (route c.nodes bs p).places) ≡ lines_with numbers c.nodes k (route c.nodes bs p).places
  unfolding route lines_of lines_with
  lines_alike [] k p lt = ap (λ (l : List ℕ). l ++ []) (line_alike k p lt)
  lines_alike (b ∷ bs) k p lt = go (next c.nodes p b) (next_new c s p b lt).1 (lines_alike bs (suc k))
    where
      go : (x : Next ℕ) → AllNext (λ q. q < length c.nodes) x
          → ((q : ℕ) → q < length c.nodes → lines_of ds (suc k) (map f (route c.nodes bs q).places)
          ≡ lines_with numbers c.nodes (suc k) (route c.nodes bs q).places)
          → lines_of ds k (map f (step_on p (route c.nodes bs) x).places)
          ≡ lines_with numbers c.nodes k (step_on p (route c.nodes bs) x).places
      go (to q) inside rest = λ i. line_alike k p lt i ++ rest q inside i
      go (stop e) inside rest = ap (λ (l : List ℕ). l ++ []) (line_alike k p lt)

  -- the text of the round
  round_alike : first_of ds ≡ first_of c.nodes → (bs : List ℕ) (p count : ℕ) → p < length c.nodes
      → (let r = route c.nodes bs p in
      round_of ds count r.ending (map f r.places) ≡ round_with numbers c.nodes count r.ending r.places)
  round_alike own bs p count lt i =
      head_of (own i) count ++ lines_alike bs 0 p lt i ++ end_of (route c.nodes bs p).ending

-- ---- what is printed of what following leaves

module _ (m n : Memory) (numbers : ℕ → ℕ) (f : ℕ → ℕ) (r : Route) (count : ℕ)
    (text : round_of (nodes_of n) count r.ending (map f r.places)
    ≡ round_with numbers (nodes_of m) count r.ending r.places) where
  abbrev Alike : WalkLeft → WalkLeft → Type 0
  Alike later l = walk_of n count later ≡ walked_with numbers m count l.answer l.visited

  by_room : (visited : List ℕ) → Alike (route_left (move_route f r) visited) (route_left r visited)
  by_room visited = rw (length-map r.places f) (go (ltb (length visited) (length r.places)))
    where
      go : (b : Bool) → Alike
          (cond b (walk_left (Err (TooShort lent.List)) visited)
          (walk_left (Ok (record { end = r.ending; count = length r.places }))
          (map f r.places ++ drop (length r.places) visited)))
          (cond b (walk_left (Err (TooShort lent.List)) visited)
          (walk_left (Ok (record { end = r.ending; count = length r.places }))
          (r.places ++ drop (length r.places) visited)))
      go true = refl
      go false =
          ap (round_of (nodes_of n) count r.ending) (take_at (map f r.places) _ _ (length-map r.places f))
          ∙ text
          ∙ sym (ap (round_with numbers (nodes_of m) count r.ending) (take_at r.places _ _ refl))

  by_area : (a : Answer) (visited : List ℕ) (later l : WalkLeft) → Alike later l
      → Alike (unless a (λ cause. walk_left (Err cause) visited) later)
      (unless a (λ cause. walk_left (Err cause) visited) l)
  by_area (Ok tt) visited later l e = e
  by_area (Err cause) visited later l e = refl

-- ---- of every memory that holds a sound cell which storing keeps

abbrev steps_by : NodeEntry → Quantised
steps_by b = quantised (metres_in b.position)

module _ (m : Memory) (fit : Fit (cell_of m)) (lies : Lies m) (calls : List Call) (p : ℕ)
    (lt : p < length (nodes_of m)) where
  abbrev now : Memory
  now = run m calls

  abbrev f : ℕ → ℕ
  f = moved m calls

  steps_same : (q : ℕ) → q < length (nodes_of m)
      → steps_of (node_at (nodes_of now) (f q)) ≡ steps_of (node_at (nodes_of m) q)
  unfolding steps_of see cell_of
  steps_same q inside = ap (λ (s : Seen). steps_by s.body) (same_seen m fit lies calls q inside)

  -- the numbers of the nodes, wherever they now stand
  abbrev Named : (ℕ → ℕ) → Type 0
  Named numbers = (q : ℕ) → q < length (nodes_of m) → (node_at (nodes_of now) (f q)).number ≡ numbers q

  places_named : any_renumbers m calls ≡ true → Named f
  unfolding cell_of
  places_named t q inside = run_numbers m calls fit t (f q) (still_inside m fit lies calls q inside)

  module _ (numbers : ℕ → ℕ) (named : Named numbers) where
    text : (choices : List ℕ) (count : ℕ)
        → (let r = route (nodes_of m) choices p in
        round_of (nodes_of now) count r.ending (map f r.places)
        ≡ round_with numbers (nodes_of m) count r.ending r.places)
    unfolding cell_of
    text choices count =
        round_alike (cell_of m) (sound_parts (cell_of m) (omega arith) fit.is_sound) (nodes_of now) f numbers
        steps_same
        named (area_kept m fit lies calls (omega arith)) choices p count lt

    walk_alike : (choices : List ℕ) (count : ℕ)
        → walk_text (nodes_of now) choices count (f p) ≡ walk_text_with numbers (nodes_of m) choices count p
    unfolding cell_of
    walk_alike choices count =
        ap (λ (r : Route). round_of (nodes_of now) count r.ending r.places)
        (alike_route (run_alike m calls fit) choices p lt)
        ∙ text choices count

    print_alike : (version : Version) (count : ℕ) (choices : List ℕ)
        → followed_of now (Ok (file_with version (present_number m calls p) count)) choices
        ≡ followed_with numbers m (file_with version (number_at m p) count) choices
    print_alike version count choices =
        let bs = take count choices in
        let r = route (nodes_of m) bs p in
        ap (walk_of now count) (followed_now m fit lies calls version bs p lt visited_lent)
        ∙ by_area m now numbers f r count (text bs count) (area_answer version (first_of (nodes_of m)))
        visited_lent
        _ _ (by_room m now numbers f r count (text bs count) visited_lent)
        ∙ sym (ap (λ (l : WalkLeft). walked_with numbers m count l.answer l.visited)
        (followed_first m fit lies version bs p lt visited_lent))

  alike_round : SameRound (cell_of m) m calls p
  unfolding cell_of
  alike_round = record {
    same_but_numbers = walk_alike (present_number m calls) (λ q inside. refl);
    then_places = λ t. walk_alike f (places_named t);
    same_print = print_alike (present_number m calls) (λ q inside. refl);
    then_places_printed = λ t. print_alike f (places_named t);
  }

-- for every sound cell as read, every list of calls and every node
pub printed_rounds_same : SamePrintedRounds
unfolding cell_of
printed_rounds_same system graphics lent e s calls p lt =
    let m = (read_of system graphics lent).memory in
    let same : cell_of m ≡ file_cell system graphics = read_cell system graphics lent e in
    let fit : Fit (cell_of m)
    = record { is_sound = ap sound same ∙ s; is_kept = rw same (read_kept system graphics) } in
    rw same at (alike_round m fit (read_lies system graphics lent e) calls p
    (rw (ap (λ (c : Cell). length c.nodes) same) lt))
