-- T-13: how long a printed text can be. A line has 44 bytes at most: its place in the round and the node's number in
-- five digits, three steps in five digits and a sign, and the words between. There are 16,384 of them at most, a head
-- of 31 and an ending of 21, so 31 + 16,384 × 44 + 21 = 720,948 bytes.
use lib.Seq.{take_at}
use Prim.Native.Nat.{ℕ, zero, suc, ◌+◌, ◌-◌, ◌*◌, ◌≤◌, ◌<◌}
use native.Mathlib.Omega.{arith}
use mathlib.Core.Path.{◌≡◌, refl, sym, subst}
use mathlib.Core.Bool.{Bool, true, false, cond}
use mathlib.Core.List.{List, [], ◌∷◌, ◌++◌}
use mathlib.Core.Option.{Option, none, some}
use lib.Dec.{ltb, leb}
use lib.IntN.{ℤ}
use lib.ListN.{length, take, drop, length-append, get_elem?}
use lib.Signed.{mag}
use borrow.Author.Tests.{ltb-false}
use Rattle.std.specs.Fmt.{decimal, signed_decimal}
use Rattle.std.specs.Prelude.{Ok, Err, Some, None, Result}
use Rattle.std.proofs.lemmas.Fmt.{length-decimal-le, length_signed_le}
use Rattle.std.proofs.lemmas.List.{length-replicate}
use Rattle.records.specs.Bytes.{le16, le32}
use Rattle.records.specs.Put.{put}
use Rattle.records.proofs.LittleEndian.{number_below}
use Rattle.numbers.specs.Refusals.{Answer, number_of, decided}
use Rattle.numbers.specs.declared.refusal.Refusal.{Refusal}
use Rattle.numbers.specs.declared.refusal.Refusal.TheVariants as refused
use Rattle.numbers.specs.declared.refusal.Lent.TheVariants as kind
use Rattle.numbers.specs.declared.position.Quantised.{Quantised}
use Rattle.numbers.proofs.StepLaws.{step_in}
use Rattle.cells.specs.Area.{belongs}
use Rattle.cells.specs.declared.link.PathLink.{PathLink}
use Rattle.cells.specs.Cell.{Node, node_at, no_node, numbers, first_of}
use Rattle.cells.specs.CellOf.{nodes_of, cell_of}
use Rattle.std.specs.List.{All}
use Rattle.std.proofs.lemmas.List.Elements.{All-nil, All-head, All-tail, All-weaker}
use Rattle.cells.proofs.Forms.EntryFits.{LinkFits}
use Rattle.cells.specs.Lookup.{find}
use Rattle.cells.specs.LookupCall.{Place, node_call}
use Rattle.cells.specs.Nodes.{first_area}
use Rattle.cells.specs.Memory.{Memory, over_limit}
use Rattle.cells.specs.Read.{read_of}
use Rattle.cells.proofs.Reading.FileRead.{read_cell}
use Rattle.cells.proofs.WritingBack.Kept.{read_kept}
use Rattle.cells.proofs.WritingBack.KeptCells.{KeptNode, Kept}
use Rattle.walks.specs.Walk.{Next, to, stop, link_at, arrive, take_link, next}
use Rattle.walks.specs.WalkCall.{Route, step_on, route, WalkLeft, walk_left, walk_call}
use Rattle.walks.specs.declared.walk.End.{End}
use Rattle.walks.specs.declared.walk.End.TheVariants as end
use Rattle.rounds.specs.Round.{unless, version_read, rest_read, in_version, VersionLeft}
use Rattle.rounds.specs.Round.{round_left, rest_causes, has_version}
use Rattle.rounds.specs.Follow.{starting_at, follow_round, area_answer, follow_version}
use Rattle.rounds.specs.declared.file.Version.{Version}
use Rattle.rounds.specs.declared.file.Version.TheVariants as version
use Rattle.rounds.specs.declared.file.VersionRound.{VersionRound}
use Rattle.printround.specs.Text.{head_of, line_text, steps_of, line_of, lines_of, end_of, round_of, refused_of}
use Rattle.printround.specs.Text.{bad_input}
use Rattle.printround.specs.Printed.{lent, choices_lent, visited_lent, walk_of, followed_of, file_of, unless_refused}
use Rattle.printround.specs.Printed.{section_of, printed}

-- ---- one line

word_length : (n : ℕ) → n < 65536 → length (decimal n) ≤ 5
word_length n h = length-decimal-le 5 n (omega arith) (omega arith) (omega arith)

step_length : (z : ℤ) → mag z < 32768 → length (signed_decimal z) ≤ 6
step_length z h = length_signed_le 5 z (omega arith) (omega arith)

text_length : (k number : ℕ) (q : Quantised) → k < 65536 → number < 65536 → mag q.x < 32768 → mag q.y < 32768
    → mag q.z < 32768 → length (line_text k number q) ≤ 44
text_length k number q hk hn x y z =
    let a = word_length k hk in
    let b = word_length number hn in
    let c = step_length q.x x in
    let d = step_length q.y y in
    let e = step_length q.z z in
    simp length-append (omega arith)

-- areas and numbers in 16 bits, as their types in memory say
pub record Named (n : Node) : Type 0 where
  pub area : n.area < 65536
  pub number : n.number < 65536

number_fits : (ns : List Node) (p : ℕ) → All Named ns → (node_at ns p).number < 65536
unfolding no_node
number_fits [] p h = omega arith
number_fits (n ∷ ns) zero h = (All-head Named n ns h).number
number_fits (n ∷ ns) (suc p) h = number_fits ns p (All-tail Named n ns h)

area_fits : (ns : List Node) → All Named ns → first_of ns < 65536
area_fits [] h = omega arith
area_fits (n ∷ ns) h = (All-head Named n ns h).area

pub line_length : (ns : List Node) → All Named ns → (k p : ℕ) → k < 65536 → length (line_of k (node_at ns p)) ≤ 44
unfolding line_of steps_of
line_length ns h k p hk =
    text_length k _ (steps_of (node_at ns p)) hk (number_fits ns p h) (step_in 2 _) (step_in 2 _) (step_in 5 _)

-- ---- all lines, and the round

lines_length : (ns : List Node) → All Named ns → (k : ℕ) (ps : List ℕ) → k + length ps ≤ 65536
    → length (lines_of ns k ps) ≤ 44 * length ps
unfolding lines_of
lines_length ns h k [] few = omega arith
lines_length ns h k (p ∷ ps) few =
    let here = line_length ns h k p (omega arith) in
    let later = lines_length ns h (suc k) ps (omega arith) in
    simp length-append (omega arith)

-- the area and the number of a *left* are of 16 bits
abbrev pub EndFits : End → Type 0
EndFits end.Done = Unit {0}
EndFits end.NoLink = Unit {0}
EndFits end.NoNode = Unit {0}
EndFits (end.Left area number) = (area < 65536) × (number < 65536)

end_length : (e : End) → EndFits e → length (end_of e) ≤ 21
end_length end.Done h = omega arith
end_length end.NoLink h = omega arith
end_length end.NoNode h = omega arith
end_length (end.Left area number) h =
    let a = word_length area h.0 in
    let b = word_length number h.1 in
    simp length-append (omega arith)

head_length : (area choices : ℕ) → area < 65536 → choices < 65536 → length (head_of area choices) ≤ 31
head_length area choices ha hc =
    let a = word_length area ha in
    let b = word_length choices hc in
    simp length-append (omega arith)

one_more : (xs ys : List ℕ) (m n : ℕ) → length xs ≤ m → length ys ≤ n → length (xs ++ ys) ≤ m + n
one_more xs ys m n x y = omega (arith, length-append xs ys)

pub round_length : (ns : List Node) → All Named ns → (choices : ℕ) (e : End) (places : List ℕ) → choices < 65536
    → EndFits e → length places ≤ 16384 → length (round_of ns choices e places) ≤ 720948
round_length ns h choices e places hc he few =
    let lines = lines_length ns h 0 places (omega arith) in
    one_more (head_of (first_of ns) choices ++ lines_of ns 0 places) (end_of e) 720927 21
    (one_more (head_of (first_of ns) choices) (lines_of ns 0 places) 31 720896
    (head_length (first_of ns) choices (area_fits ns h) hc) (omega arith))
    (end_length e he)

-- ---- refusals

number_small : (r : Refusal) → number_of r < 65536
number_small refused.SystemTooShort = omega arith
number_small refused.SystemTooLong = omega arith
number_small refused.GraphicsTooLong = omega arith
number_small (refused.BadArray a) = omega arith
number_small (refused.LinksOutside node) = omega arith
number_small (refused.ValuesOutside junction) = omega arith
number_small refused.TooManyNodes = omega arith
number_small refused.TooManyJunctions = omega arith
number_small (refused.TooShort l) = omega arith
number_small (refused.TooManyLinks node) = omega arith
number_small (refused.LinksStartTooHigh node) = omega arith
number_small (refused.ValuesStartTooHigh junction) = omega arith
number_small refused.TooManyRefs = omega arith
number_small refused.WrongSize = omega arith
number_small refused.NoSuchPlace = omega arith
number_small refused.AtLimit = omega arith
number_small refused.NoRoundFile = omega arith
number_small refused.WrongLength = omega arith
number_small refused.NoPath = omega arith
number_small refused.AreaTaken = omega arith
number_small refused.OtherArea = omega arith

refusal_length : (r : Refusal) → length (refused_of (number_of r)) ≤ 720948
refusal_length r = let a = word_length (number_of r) (number_small r) in simp length-append (omega arith)

-- ---- the ending of a walk

links_fit : (ns : List Node) (p : ℕ) → All KeptNode ns → All LinkFits (node_at ns p).links
unfolding no_node
links_fit [] p h = All-nil LinkFits
links_fit (n ∷ ns) zero h = (All-head KeptNode n ns h).links
links_fit (n ∷ ns) (suc p) h = links_fit ns p (All-tail KeptNode n ns h)

abbrev IfFits : Option PathLink → Type 0
IfFits (some l) = LinkFits l
IfFits none = Unit {0}

fits_at : (ls : List PathLink) (b : ℕ) → All LinkFits ls → IfFits (get_elem? ls b)
fits_at [] b h = tt
fits_at (l ∷ ls) zero h = All-head LinkFits l ls h
fits_at (l ∷ ls) (suc b) h = fits_at ls b (All-tail LinkFits l ls h)

abbrev NextFits : Next ℕ → Type 0
NextFits (to q) = Unit {0}
NextFits (stop e) = EndFits e

arrive_fits : (q : Option ℕ) → NextFits (arrive q)
arrive_fits (some q) = tt
arrive_fits none = tt

link_fits : (ns : List Node) (l : Option PathLink) → IfFits l → NextFits (take_link ns l)
link_fits ns none h = tt
link_fits ns (some l) h = go (belongs (first_of ns) l.area_id)
  where
    go : (b : Bool) → NextFits (cond b (arrive (find (numbers ns) l.node_id)) (stop (end.Left l.area_id l.node_id)))
    go true = arrive_fits (find (numbers ns) l.node_id)
    go false = (h.area_id, h.node_id)

pub end_fits : (ns : List Node) → All KeptNode ns → (bs : List ℕ) (p : ℕ) → EndFits (route ns bs p).ending
unfolding route next
end_fits ns h [] p = tt
end_fits ns h (b ∷ bs) p =
    go (next ns p b) (link_fits ns (link_at ns p b) (fits_at (node_at ns p).links b (links_fit ns p h)))
    (end_fits ns h bs)
  where
    go : (x : Next ℕ) → NextFits x → ((q : ℕ) → EndFits (route ns bs q).ending)
        → EndFits (step_on p (route ns bs) x).ending
    go (to q) fits later = later q
    go (stop e) fits later = fits

-- ---- what is printed of what following leaves

either : {A : Type 0} (P : A → Type 0) (b : Bool) {x y : A} → P x → P y → P (cond b x y)
either P true p q = p
either P false p q = q

module _ (m : Memory) (kept_all : All KeptNode (nodes_of m)) (count : ℕ) (few : count < 65536) where
  abbrev Short : WalkLeft → Type 0
  Short l = length (walk_of m count l) ≤ 720948

  named : All Named (nodes_of m)
  named = All-weaker KeptNode Named (λ n k. record { area = k.area; number = k.number }) (nodes_of m) kept_all

  walk_short : (choices : List ℕ) (start : ℕ) (visited : List ℕ) → length visited ≤ 16384
      → Short (walk_call m choices start visited)
  unfolding walk_call
  walk_short choices start visited room =
      either Short (leb m.ynd.node_count start) (refusal_length refused.NoSuchPlace)
      (either Short (over_limit m.ynd) (refusal_length refused.AtLimit)
      (either Short (ltb (length m.nodes) m.ynd.node_count) (refusal_length (refused.TooShort kind.Nodes))
      (either Short (ltb (length m.links) m.ynd.link_count) (refusal_length (refused.TooShort kind.Links))
      (by_room (ltb (length visited) (length r.places)) refl))))
    where
      r : Route
      r = route (nodes_of m) choices start

      left : WalkLeft
      left = walk_left (Ok (record { end = r.ending; count = length r.places }))
          (r.places ++ drop (length r.places) visited)

      by_room : (b : Bool) → ltb (length visited) (length r.places) ≡ b
          → Short (cond b (walk_left (Err (refused.TooShort kind.List)) visited) left)
      by_room true e = refusal_length (refused.TooShort kind.List)
      by_room false e =
          let places : take (length r.places) left.visited ≡ r.places = take_at r.places _ _ refl in
          let inside = ltb-false _ _ e in
          subst (λ (ps : List ℕ). length (round_of (nodes_of m) count r.ending ps) ≤ 720948) (sym places)
          (round_length (nodes_of m) named count r.ending r.places few (end_fits (nodes_of m) kept_all choices start)
          (omega arith))

  start_short : (place : Place) (walked : ℕ → WalkLeft) (visited : List ℕ) → ((p : ℕ) → Short (walked p))
      → Short (starting_at place walked visited)
  start_short (Ok (Some p)) walked visited h = h p
  start_short (Ok None) walked visited h = refusal_length refused.NoSuchPlace
  start_short (Err cause) walked visited h = refusal_length cause

  unless_short : (a : Answer) (visited : List ℕ) (l : WalkLeft) → Short l
      → Short (unless a (λ cause. walk_left (Err cause) visited) l)
  unless_short (Ok tt) visited l h = h
  unless_short (Err cause) visited l h = refusal_length cause

  follow_short : (v : Version) (start : ℕ) (choices visited : List ℕ) → length visited ≤ 16384
      → Short (follow_version m v start choices visited)
  unfolding follow_version follow_round
  follow_short v start choices visited room =
      unless_short (area_answer v (first_area (take m.ynd.node_count m.nodes))) visited _
      (start_short (node_call m.ynd m.nodes start) (λ p. walk_call m choices p visited) visited
      (λ p. walk_short choices p visited room))

-- ---- a file's count of choices is of 16 bits

abbrev CountFits : Result VersionRound Refusal → Type 0
CountFits (Ok v) = v.count < 65536
CountFits (Err cause) = Unit {0}

rest_fits : (v : Version) (at : ℕ) (s choices : List ℕ) → CountFits (in_version v (rest_read at s choices)).answer
unfolding rest_read
rest_fits v at s choices = go (decided (rest_causes at (length s) (le16 s (at + 2)) (length choices)))
  where
    go : (a : Answer) → CountFits (in_version v
        (unless a (λ cause. round_left (Err cause) choices)
        (round_left (Ok (record { start = le16 s at; count = le16 s (at + 2) }))
        (put choices 0 (drop (at + 4) s))))).answer
    go (Ok tt) = number_below 2 s (at + 2)
    go (Err cause) = tt

count_fits : (s choices : List ℕ) → CountFits (version_read s choices).answer
unfolding version_read
count_fits s choices =
    either {A = VersionLeft} (λ l. CountFits l.answer) (has_version 1 s) (rest_fits version.One 5 s choices)
    (either {A = VersionLeft} (λ l. CountFits l.answer) (has_version 2 s)
    (rest_fits (version.Two (le16 s 5)) 7 s choices) tt)

-- ---- the whole text

file_short : (m : Memory) → All KeptNode (nodes_of m) → (a : Result VersionRound Refusal) (choices : List ℕ)
    → CountFits a → length (followed_of m a choices) ≤ 720948
unfolding visited_lent
file_short m kept_all (Ok v) choices fits =
    follow_short m kept_all v.count fits v.version v.start (take v.count choices) visited_lent
    (omega (arith, length-replicate {A = ℕ} 16384 0))
file_short m kept_all (Err cause) choices fits = refusal_length cause

section_short : (section file : List ℕ) → length (section_of section file) ≤ 720948
unfolding section_of cell_of
section_short section file = go (read_of section [] lent).answer refl
  where
    m : Memory
    m = (read_of section [] lent).memory

    go : (a : Answer) → (read_of section [] lent).answer ≡ a
        → length (unless_refused a (file_of m (version_read file choices_lent))) ≤ 720948
    go (Ok tt) e =
        let stored : Kept (cell_of m) = rw (read_cell section [] lent e) (read_kept section []) in
        file_short m stored.nodes (version_read file choices_lent).answer
        (version_read file choices_lent).choices (count_fits file choices_lent)
    go (Err cause) e = refusal_length cause

-- for every input
pub length_printed : (input : List ℕ) → length (printed input) ≤ 720948
unfolding printed
length_printed input =
    let stated = le32 input 0 in
    let Fits : List ℕ → Type 0 = λ text. length text ≤ 720948 in
    let bad : Fits bad_input = omega arith in
    either Fits (ltb 65536 (length input)) bad
    (either Fits (ltb (length input) 4) bad
    (either Fits (ltb (length input - 4) stated) bad
    (section_short (take stated (drop 4 input)) (drop (4 + stated) input))))
