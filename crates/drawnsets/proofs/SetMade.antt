-- The members of a set stay made cells, whatever calls the set goes through. Assumes nothing but that arguments fit
-- their types.
use Prim.Native.Nat.{ℕ, ◌<◌}
use native.Mathlib.Omega.{arith}
use mathlib.Core.Path.{◌≡◌, refl, ap, sym, ◌∙◌, subst}
use mathlib.Core.Bool.{Bool, true, false}
use mathlib.Core.List.{List, [], ◌∷◌, ◌++◌}
use mathlib.Core.Option.{Option, none, some}
use lib.Dec.{leb}
use lib.ListN.{length, set, take, length-map}
use lib.Seq.{take_all, take-append_seam}
use Rattle.std.specs.Prelude.{Result, Ok, Err}
use Rattle.numbers.specs.Refusals.{Cause, when, Answer, decided}
use Rattle.numbers.specs.declared.refusal.Refusal.{Refusal}
use Rattle.numbers.specs.declared.refusal.Refusal.TheVariants.{NoSuchPlace}
use Rattle.numbers.proofs.Refusing.{not_refused}
use Rattle.cells.specs.declared.node_entry.NodeEntry.{NodeEntry}
use Rattle.cells.specs.declared.link.PathLink.{PathLink}
use Rattle.cells.specs.declared.junction_entry.JunctionEntry.{JunctionEntry}
use Rattle.records.specs.declared.junction_ref.NodeJunctionRef.{NodeJunctionRef}
use Rattle.cells.specs.Memory.{Memory, Left}
use Rattle.cells.specs.declared.counts.Counts.{Counts}
use Rattle.cells.specs.Renumber.{renumber}
use Rattle.cells.specs.WriteRead.{write_read_of}
use Rattle.cells.specs.CellOf.{cell_of}
use Rattle.sets.specs.Members.{map_from, areas, area_of}
use Rattle.sets.proofs.MemberLaws.{first_has}
use Rattle.sets.specs.MemberList.{cells_of, member_at, member_causes, unless}
use Rattle.sets.specs.CellSet.{CellSet, cell_set, members_of, set_causes}
use Rattle.sets.specs.Leave.{used, removed, first_of_area, leave_causes, leave_area}
use Rattle.sets.specs.Join.{join_cell, joined_member}
use Rattle.sets.specs.SetStored.{member_in, ask_causes}
use Rattle.sets.specs.SetRenumber.{change_of, correct_memory, members_after, not_renumbered, renumbered_in}
use Rattle.sets.specs.SetRenumber.{renumber_in, not_written, both_in, write_read_in}
use Rattle.sets.specs.RenumberMember.{member_renumbered, renumbered_at, renumber_member}
use Rattle.sets.specs.WriteMember.{set_written, wrote_in, write_read_member}
use Rattle.sets.specs.MemberEdit.{edit_by, add_causes}
use Rattle.sets.specs.MemberEdit as member
use Rattle.sets.specs.SetCallLaws.{joined_set, left_set}
use Rattle.sets.proofs.SetCallLaws.{calls_follow, refused_changes_none}
use Rattle.sets.proofs.SetLeft.{leave_keeps}
use Rattle.sets.proofs.SetMemory.{member_there}
use Rattle.sets.proofs.MembersJoined.{join_done, join_refused}
use Rattle.sets.proofs.MembersLeft.{leave_refused}
use Rattle.sets.proofs.CellSetLaws.{members_many}
use Rattle.sets.proofs.MemberStored.{FitsMember}
use Rattle.sets.proofs.MemberPartLaws.{may, ask_held, member_fits}
use Rattle.sets.proofs.EditedMembers.{edit_refused, edit_done, edited_members, add_asked}
use Rattle.drawn.specs.Made.{Made}
use Rattle.drawn.specs.Changes.{Edit, edited}
use Rattle.drawn.specs.Changes.{add_node, add_link, add_ref, add_junction}
use Rattle.drawn.specs.Changes.{put_node, set_position, put_link, put_ref, put_junction, put_height}
use Rattle.drawn.specs.Changes.{put_links, put_heightmap, truncate_nodes, truncate_junctions, truncate_refs}
use Rattle.drawn.specs.Changes.{set_vft, set_vehicle_node_count, set_ped_node_count, set_unknowns}
use Rattle.drawn.specs.Changes as cell
use Rattle.drawn.specs.Fits.{EditFits}
use Rattle.drawn.proofs.Made.{change_made}
use Rattle.drawn.proofs.SameLengths.{SameLengths, edit_long}
use Rattle.drawnsets.specs.SetChanges.{SetChange, joining, leaving, renumbering, write_read, edit, put_words}
use Rattle.drawnsets.specs.SetChanges.{causes_for, with_room, after, run}
use Rattle.drawnsets.specs.AllMade.{MadeList, AllMade, SetFits, AllFit}
use Rattle.drawnsets.specs.Claim.{MembersMade, SetDrawn}
use Rattle.drawnsets.proofs.MadeLists.{set_list, more_list, less_list, from_list}
use Rattle.drawnsets.proofs.MemberMade.{seven_words, joined_made, corrected_made, few_nodes, words_made}

-- lists of members that are the same
same_list : (xs ys : List Memory) → xs ≡ ys → MadeList xs → MadeList ys
same_list xs ys e h = subst MadeList e h

-- ---- a member's own calls, by the laws of drawn

member_renumbered_made : (m : Memory) → Made m → (s ps : List ℕ) → Made (renumber m (length s) ps).memory
unfolding cell.after
member_renumbered_made m h s ps = change_made m h (cell.renumbering s ps) tt

member_written_made : (m : Memory) → Made m → (section : List ℕ) → Made (write_read_of m section).memory
unfolding cell.after
member_written_made m h section = change_made m h (cell.write_read section) tt

member_edited_made : (m : Memory) → Made m → (e : Edit) → EditFits e → Made (edited m e).memory
unfolding cell.after
member_edited_made m h e fits = change_made m h (cell.edit e) fits

-- ---- joining

joined : (y : CellSet) → AllMade y → (m : Memory) → Made m → (sizes : Counts) (room : List (List ℕ))
    → AllMade (joined_set (length y.members) (with_room y room) m sizes)
joined y h m made sizes room = go (join_cell count z m sizes).answer refl
  where
    count : ℕ
    count = length y.members

    z : CellSet
    z = with_room y room

    entries : take count z.members ≡ y.members
    entries = take-append_seam y.members room

    before : members_of (used count z) ≡ members_of y
    before = ap (λ (w : List (List ℕ)). members_of (cell_set w y.nodes y.links y.junctions y.heights y.refs)) entries

    go : (a : Answer) → (join_cell count z m sizes).answer ≡ a → MadeList (members_of (joined_set count z m sizes))
    go (Err x) e =
        let r = join_refused count z m sizes (seven_words m made) x e in
        same_list (members_of y) (members_of (joined_set count z m sizes))
        (sym before
        ∙ ap (λ (k : ℕ). members_of (used k z)) (sym (ap length entries))
        ∙ (λ i. members_of (used (sym r.1 i) (sym r.0 i)))) h
    go (Ok tt) e =
        let r = join_done count z m sizes (seven_words m made) e in
        let d = joined_member (take count z.members) z m sizes in
        same_list (members_of y ++ (d ∷ [])) (members_of (joined_set count z m sizes))
        (ap (λ (l : List Memory). l ++ (d ∷ [])) (sym before) ∙ sym r.0)
        (more_list (members_of y) d h (joined_made (take count z.members) z m sizes made r.1))

-- ---- leaving

pub first_there : (y : CellSet) (area j : ℕ) → first_of_area y area ≡ some j → j < length (members_of y)
unfolding first_of_area
first_there y area j at =
    let ms = members_of y in
    let k = first_has (areas (cells_of ms)) area j at in
    omega (arith, k.0, length-map (cells_of ms) area_of, length-map ms cell_of)

-- no member has the area: refused
none_leaves : {P : Type 0} (y : CellSet) (area : ℕ) → first_of_area y area ≡ none → (leave_area y area).answer ≡
    (Ok tt) → P
unfolding leave_area leave_causes
none_leaves y area f e = not_refused (rw f at e)

left : (y : CellSet) → AllMade y → (area : ℕ) → AllMade (left_set y area)
left y h area = go (leave_area y area).answer refl
  where
    whole : members_of (used (length y.members) y) ≡ members_of y
    whole =
        ap (λ (w : List (List ℕ)). members_of (cell_set w y.nodes y.links y.junctions y.heights y.refs))
        (take_all (length y.members) y.members (omega arith))

    found : (o : Option ℕ) → first_of_area y area ≡ o → (leave_area y area).answer ≡ (Ok tt)
        → MadeList (members_of (left_set y area))
    found (some j) f e =
        let k = leave_keeps y area j f e in
        same_list (removed j (members_of y)) (members_of (left_set y area)) (sym k.members_left)
        (less_list (members_of y) j (first_there y area j f) h)
    found none f e = none_leaves y area f e

    go : (a : Answer) → (leave_area y area).answer ≡ a → MadeList (members_of (left_set y area))
    go (Err x) e =
        let r = leave_refused y area x e in
        same_list (members_of y) (members_of (left_set y area))
        (sym whole ∙ (λ i. members_of (used (sym r.1 i) (sym r.0 i)))) h
    go (Ok tt) e = found (first_of_area y area) refl e

-- ---- calls on one member

-- a call that is asked nothing but these causes, the first of which is the member's place
rest_done : (b : Bool) (r : Refusal) (cs : List Cause) → decided (when b r ∷ cs) ≡ (Ok tt) → decided cs ≡ (Ok tt)
rest_done true r cs e = not_refused e
rest_done false r cs e = e

set_asked : (y : CellSet) (j : ℕ) → decided (ask_causes y j) ≡ (Ok tt) → decided (set_causes y) ≡ (Ok tt)
unfolding ask_causes
set_asked y j e = rest_done (leb (length y.members) j) NoSuchPlace (set_causes y) e

renumber_list : (ms : List Memory) → MadeList ms → (j : ℕ) (s ps : List ℕ)
    → MadeList (renumber_in ms j (length s) ps).members
unfolding renumber_in
renumber_list ms h j s ps = go (decided (member_causes ms j)) refl
  where
    own : Memory
    own = (renumber (member_at ms j) (length s) ps).memory

    done : (a : Answer) → j < length ms → MadeList (members_after a ms j own)
    done (Err x) lt = h
    done (Ok tt) lt =
        set_list (map_from (correct_memory (change_of (cells_of ms) j)) 0 ms) j own
        (from_list (correct_memory (change_of (cells_of ms) j)) ms
        (λ i inside. corrected_made (cells_of ms) j (few_nodes ms j (h j lt)) i (member_at ms i) (h i inside)))
        (member_renumbered_made (member_at ms j) (h j lt) s ps)

    go : (a : Answer) → decided (member_causes ms j) ≡ a
        → MadeList (unless a (not_renumbered ms ps)
        (renumbered_in ms j (renumber (member_at ms j) (length s) ps))).members
    go (Err x) e = h
    go (Ok tt) e = done (renumber (member_at ms j) (length s) ps).answer (member_there ms j e)

write_list : (ms : List Memory) → MadeList ms → (j : ℕ) (section : List ℕ)
    → MadeList (write_read_in ms j section).members
unfolding write_read_in
write_list ms h j section = go (decided (member_causes ms j)) refl
  where
    go : (a : Answer) → decided (member_causes ms j) ≡ a
        → MadeList (unless a (not_written ms section) (both_in ms j (write_read_of (member_at ms j) section))).members
    go (Err x) e = h
    go (Ok tt) e =
        let lt = member_there ms j e in
        set_list ms j (write_read_of (member_at ms j) section).memory h
        (member_written_made (member_at ms j) (h j lt) section)

renumber_asked : (y : CellSet) (j s : ℕ) (ps : List ℕ) → (renumber_member y j s ps).answer ≡ (Ok tt)
    → decided (ask_causes y j) ≡ (Ok tt)
unfolding renumber_member
renumber_asked y j s ps e = go (decided (ask_causes y j)) e
  where
    go : (a : Answer)
        → (unless a (λ cause. member_renumbered (Err cause) y ps)
        (renumbered_at y j (renumber (member_in y j) s ps))).answer ≡ (Ok tt)
        → a ≡ (Ok tt)
    go (Err x) e = not_refused e
    go (Ok tt) e = refl

renumbered : (y : CellSet) → AllMade y → (j : ℕ) (s ps : List ℕ) → AllMade (renumber_member y j (length s) ps).lists
renumbered y h j s ps = go (renumber_member y j (length s) ps).answer refl
  where
    go : (a : Answer) → (renumber_member y j (length s) ps).answer ≡ a → AllMade
        (renumber_member y j (length s) ps).lists
    go (Err x) e = subst AllMade (sym (refused_changes_none.renumber_refused y j (length s) ps x e).0) h
    go (Ok tt) e =
        same_list (renumber_in (members_of y) j (length s) ps).members
        (members_of (renumber_member y j (length s) ps).lists)
        (sym ((calls_follow y (set_asked y j (renumber_asked y j (length s) ps e))).renumbered j (length s) ps))
        (renumber_list (members_of y) h j s ps)

write_asked : (y : CellSet) (j : ℕ) (section : List ℕ) (n : ℕ) → (write_read_member y j section).answer ≡ Ok n
    → decided (ask_causes y j) ≡ (Ok tt)
unfolding write_read_member
write_asked y j section n e = go (decided (ask_causes y j)) e
  where
    go : (a : Answer)
        → (unless a (λ cause. set_written (Err cause) y section)
        (wrote_in y j (write_read_of (member_in y j) section))).answer ≡ Ok n
        → a ≡ (Ok tt)
    go (Err x) e = not_refused e
    go (Ok tt) e = refl

written : (y : CellSet) → AllMade y → (j : ℕ) (section : List ℕ) → AllMade (write_read_member y j section).lists
written y h j section = go (write_read_member y j section).answer refl
  where
    go : (a : Result ℕ Refusal) → (write_read_member y j section).answer ≡ a → AllMade
        (write_read_member y j section).lists
    go (Err x) e = subst AllMade (sym (refused_changes_none.write_refused y j section x e).0) h
    go (Ok n) e =
        same_list (write_read_in (members_of y) j section).members (members_of (write_read_member y j section).lists)
        (sym ((calls_follow y (set_asked y j (write_asked y j section n e))).written j section))
        (write_list (members_of y) h j section)

-- an edit of one member, whatever it is asked first
member_edited : (y : CellSet) → AllMade y → (j : ℕ) (causes : List Cause) (f : Memory → Left)
    → (decided causes ≡ (Ok tt) → decided (ask_causes y j) ≡ (Ok tt))
    → ((m : Memory) → Made m → Made (f m).memory) → ((m : Memory) → SameLengths m (f m).memory)
    → AllMade (edit_by causes y j f).lists
member_edited y h j causes f asks keeps long = go (edit_by causes y j f).answer refl
  where
    go : (a : Answer) → (edit_by causes y j f).answer ≡ a → AllMade (edit_by causes y j f).lists
    go (Err x) e = subst AllMade (sym (edit_refused causes y j f x e)) h
    go (Ok tt) e =
        let ask = asks (edit_done causes y j f e).0 in
        let k = may y j (sym (ask_held y j ∙ ask)) in
        let inside : j < length (members_of y) = omega (arith, k.there, members_many y) in
        let made = keeps (member_in y j) (h j inside) in
        let was = member_fits y j k.there k.whole in
        let l = long (member_in y j) in
        let fits : FitsMember y.members j (f (member_in y j)).memory = record {
          nodes_fit = l.nodes ∙ was.nodes_fit;
          links_fit = l.links ∙ was.links_fit;
          junctions_fit = l.junctions ∙ was.junctions_fit;
          heights_fit = l.heights ∙ was.heights_fit;
          refs_fit = l.refs ∙ was.refs_fit;
          seven = seven_words (f (member_in y j)).memory made;
        } in
        same_list (set (members_of y) j (f (member_in y j)).memory) (members_of (edit_by causes y j f).lists)
        (sym (edited_members y j causes f k fits e))
        (set_list (members_of y) j (f (member_in y j)).memory h made)

causes_asked : (y : CellSet) (j : ℕ) (e : Edit) → decided (causes_for y j e) ≡ (Ok tt) → decided (ask_causes y j) ≡
    (Ok tt)
causes_asked y j (add_node area at) d = add_asked y j d
causes_asked y j (add_link p x) d = d
causes_asked y j (add_ref r) d = d
causes_asked y j (add_junction x values) d = d
causes_asked y j (put_node p x) d = d
causes_asked y j (set_position p at) d = d
causes_asked y j (put_link p k x) d = d
causes_asked y j (put_ref p r) d = d
causes_asked y j (put_junction p x) d = d
causes_asked y j (put_height p k v) d = d
causes_asked y j (put_links p ls) d = d
causes_asked y j (put_heightmap p width height values) d = d
causes_asked y j (truncate_nodes k) d = d
causes_asked y j (truncate_junctions k) d = d
causes_asked y j (truncate_refs k) d = d
causes_asked y j (set_vft v) d = d
causes_asked y j (set_vehicle_node_count v) d = d
causes_asked y j (set_ped_node_count v) d = d
causes_asked y j (set_unknowns words) d = d

words_put : (y : CellSet) → AllMade y → (j vft vehicles peds : ℕ) (words : List ℕ)
    → SetFits (put_words j vft vehicles peds words) → AllMade (after y (put_words j vft vehicles peds words))
unfolding after
words_put y h j vft vehicles peds words fits =
    member_edited y h j (ask_causes y j) (λ m. member.put_words m vft vehicles peds words) (λ d. d)
    (λ m made. words_made m made vft vehicles peds words fits.0 fits.1 fits.2 fits.3)
    (λ m. record { nodes = refl; links = refl; junctions = refl; heights = refl; refs = refl })

-- ---- every call, and lists of them

pub after_made : (y : CellSet) → AllMade y → (k : SetChange) → SetFits k → AllMade (after y k)
unfolding after
after_made y h (joining m sizes room) fits = joined y h m fits sizes room
after_made y h (leaving area) fits = left y h area
after_made y h (renumbering j s ps) fits = renumbered y h j s ps
after_made y h (write_read j section) fits = written y h j section
after_made y h (edit j e) fits =
    member_edited y h j (causes_for y j e) (λ m. edited m e) (causes_asked y j e)
    (λ m made. member_edited_made m made e fits) (λ m. edit_long m e)
after_made y h (put_words j vft vehicles peds words) fits = words_put y h j vft vehicles peds words fits

pub members_made : MembersMade
unfolding run AllFit
members_made y h [] fits = h
members_made y h (k ∷ ks) fits = members_made (after y k) (after_made y h k fits.0) ks fits.1

empty_made : (nodes : List NodeEntry) (links : List PathLink) (junctions : List JunctionEntry) (heights : List ℕ)
    (refs : List NodeJunctionRef)
    → AllMade (cell_set [] nodes links junctions heights refs)
empty_made nodes links junctions heights refs i lt =
    absurd (omega (arith, lt, members_many (cell_set [] nodes links junctions heights refs)))

pub set_drawn : SetDrawn
set_drawn nodes links junctions heights refs ks fits =
    members_made (cell_set [] nodes links junctions heights refs)
    (empty_made nodes links junctions heights refs) ks fits
