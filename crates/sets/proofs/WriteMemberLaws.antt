-- Write-then-read of a member: each answer.
use Prim.Native.Nat.{ℕ}
use mathlib.Core.Path.{◌≡◌, refl, ap, sym, ◌∙◌}
use mathlib.Core.List.{List, []}
use lib.ListN.{get_or, set}
use Rattle.records.specs.Put.{put}
use Rattle.cells.specs.Memory.{Memory}
use Rattle.cells.specs.WriteRead.{Both, written_of, ynd_after, write_read_of}
use Rattle.cells.specs.declared.ynd.Ynd.{Ynd}
use Rattle.cells.specs.declared.write_read.WroteRead.{WroteRead}
use Rattle.sets.specs.CellSet.{CellSet, cell_set}
use Rattle.sets.specs.SetStored.{entry_with, with_member}
use Rattle.sets.specs.MemberParts.{part_memory}
use Rattle.sets.specs.WriteMember.{set_written, lists_after, wrote_in, write_read_member}
use Rattle.cells.specs.declared.counts.Counts.{Counts}
use Rattle.sets.specs.declared.member.MemberPart.{MemberPart}
use Rattle.sets.proofs.SetLaws.{written_refused}
use Rattle.sets.proofs.MemberPartLaws.{OpenAt, put_back}
use Rattle.sets.proofs.MemberAskLaws.{called}
use Rattle.std.specs.Result.{IsErrAnd}
use Rattle.std.proofs.lemmas.Result.{err_from_is_err_and}
use Rattle.std.specs.Prelude.{Result, Ok, Err}
use Rattle.numbers.specs.declared.refusal.Refusal.{Refusal}
use Rattle.cells.specs.declared.node_entry.NodeEntry.{NodeEntry}
use Rattle.cells.specs.declared.link.PathLink.{PathLink}
use Rattle.cells.specs.declared.junction_entry.JunctionEntry.{JunctionEntry}
use Rattle.records.specs.declared.junction_ref.NodeJunctionRef.{NodeJunctionRef}

module _ {y : CellSet} {j : ℕ} (section : List ℕ) {p : MemberPart} (k : OpenAt y j p) where
  abbrev ws : List (List ℕ)
  ws = y.members

  abbrev part : Memory
  part = part_memory p.ynd p.a p.e y

  abbrev b : Both
  b = write_read_of part section

  wrote : wrote_in y j b ≡ write_read_member y j section
  unfolding write_read_member
  wrote = called (λ x. set_written (Err x) y section) (λ (m : Memory). wrote_in y j (write_read_of m section)) k refl

  -- what the call on its part leaves
  module _ {r : Result WroteRead Refusal} {N : List NodeEntry} {L : List PathLink} {J : List JunctionEntry}
      {R : List NodeJunctionRef} {H S : List ℕ}
      (q : (written_of r ≡ b.answer) × (ynd_after p.ynd r ≡ b.memory.ynd)
      × (N ≡ put y.nodes p.a.nodes b.memory.nodes) × (L ≡ put y.links p.a.links b.memory.links)
      × (J ≡ put y.junctions p.a.junctions b.memory.junctions) × (H ≡ put y.heights p.a.heights b.memory.heights)
      × (R ≡ put y.refs p.a.refs b.memory.refs) × (S ≡ b.section)) where
    pub write_read_done : {w : WroteRead} {W : List (List ℕ)} → r ≡ Ok w
        → W ≡ set ws j (entry_with w.ynd (get_or ws j []))
        → set_written (Ok w.written) (cell_set W N L J H R) S ≡ write_read_member y j section
    unfolding with_member
    write_read_done {w} {W} is eW =
        let s = k.starts in
        let says : Ok w.written ≡ b.answer = ap written_of (sym is) ∙ q.0 in
        let own : w.ynd ≡ b.memory.ynd = ap (ynd_after p.ynd) (sym is) ∙ q.1 in
        let lists : cell_set W N L J H R ≡ with_member y j b.memory =
        λ i. record {
          members = (eW ∙ ap (λ (v : Ynd). set ws j (entry_with v (get_or ws j []))) own) i;
          nodes = (q.2 ∙ ap (λ (c : Counts). put y.nodes c.nodes b.memory.nodes) s) i;
          links = (q.3 ∙ ap (λ (c : Counts). put y.links c.links b.memory.links) s) i;
          junctions = (q.4 ∙ ap (λ (c : Counts). put y.junctions c.junctions b.memory.junctions) s) i;
          heights = (q.5 ∙ ap (λ (c : Counts). put y.heights c.heights b.memory.heights) s) i;
          refs = (q.6 ∙ ap (λ (c : Counts). put y.refs c.refs b.memory.refs) s) i;
        } in
        let after : with_member y j b.memory ≡ lists_after b.answer y j b.memory
        = ap (λ (a : Result ℕ Refusal). lists_after a y j b.memory) says in
        (λ i. set_written (says i) ((lists ∙ after) i) (q.7 i)) ∙ wrote

    pub write_read_out : {x : Refusal} {a : Result ℕ Refusal} → r ≡ Err x → IsErrAnd a (λ z. z ≡ x)
        → set_written a (cell_set ws N L J H R) S ≡ write_read_member y j section
    write_read_out {x} {a} is ea =
        let w = err_from_is_err_and a ea in
        let says : Err x ≡ b.answer = ap written_of (sym is) ∙ q.0 in
        let same = (written_refused part section x (sym says)).0 in
        let lists : cell_set ws N L J H R ≡ y =
        λ i. record {
          members = ws;
          nodes = (q.2 ∙ ap (λ (m : Memory). put y.nodes p.a.nodes m.nodes) same ∙ put_back y.nodes p.a.nodes _) i;
          links = (q.3 ∙ ap (λ (m : Memory). put y.links p.a.links m.links) same ∙ put_back y.links p.a.links _) i;
          junctions = (q.4 ∙ ap (λ (m : Memory). put y.junctions p.a.junctions m.junctions) same
              ∙ put_back y.junctions p.a.junctions _) i;
          heights = (q.5 ∙ ap (λ (m : Memory). put y.heights p.a.heights m.heights) same
              ∙ put_back y.heights p.a.heights _) i;
          refs = (q.6 ∙ ap (λ (m : Memory). put y.refs p.a.refs m.refs) same ∙ put_back y.refs p.a.refs _) i;
        } in
        let after : y ≡ lists_after b.answer y j b.memory
        = ap (λ (c : Result ℕ Refusal). lists_after c y j b.memory) says in
        (λ i. set_written ((w.1 ∙ ap Err w.2 ∙ says) i) ((lists ∙ after) i) (q.7 i)) ∙ wrote
