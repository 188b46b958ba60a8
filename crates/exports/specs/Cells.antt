-- What a call on a cell leaves of the cell's own words and of the lists, as a caller in C gets it.
use Rattle.std.specs.Prelude.{ℕ, List}
use Rattle.cells.specs.declared.ynd.Ynd.{Ynd}
use Rattle.cells.specs.declared.node_entry.NodeEntry.{NodeEntry}
use Rattle.cells.specs.declared.link.PathLink.{PathLink}
use Rattle.cells.specs.declared.junction_entry.JunctionEntry.{JunctionEntry}
use Rattle.records.specs.declared.junction_ref.NodeJunctionRef.{NodeJunctionRef}
use Rattle.cells.specs.Memory.{Memory, Left}
use Rattle.cells.specs.Renumber.{Renumbered}
use Rattle.cells.specs.WriteRead.{Both}
use Rattle.exports.specs.Answers.{answer_number, answer_place}

-- what a call answers, the cell's own words and the lists after it
pub record Called : Type 0 where
  pub number : ℕ
  pub place : ℕ
  pub ynd : Ynd
  pub nodes : List NodeEntry
  pub links : List PathLink
  pub junctions : List JunctionEntry
  pub heights : List ℕ
  pub refs : List NodeJunctionRef

abbrev pub called : ℕ → ℕ → Ynd → List NodeEntry → List PathLink → List JunctionEntry → List ℕ → List NodeJunctionRef
    → Called
called r p y nodes links junctions heights refs =
    record {
      number = r;
      place = p;
      ynd = y;
      nodes = nodes;
      links = links;
      junctions = junctions;
      heights = heights;
      refs = refs;
    }

-- the answer's number and place, and the memory after the call, list by list
abbrev pub told_memory : ℕ → ℕ → Memory → Called
told_memory r p m = called r p m.ynd m.nodes m.links m.junctions m.heights m.refs

unfoldable pub call_of : Left → Called
call_of l = told_memory (answer_number l.answer) (answer_place l.answer) l.memory

-- the same of write-then-read, whose section and length stand beside it
unfoldable pub both_called : Both → Called
both_called b = told_memory (answer_number b.answer) (answer_place b.answer) b.memory

-- the same of renumbering, whose list of new places stands beside it
unfoldable pub renumbered_of : Renumbered → Called
renumbered_of r = call_of (record { answer = r.answer; memory = r.memory })
