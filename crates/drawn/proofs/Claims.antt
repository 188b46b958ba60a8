-- The claims of specs/Claim, proved.
use mathlib.Core.Path.{◌≡◌, ◌∙◌}
use mathlib.Core.List.{[]}
use lib.ListN.{take}
use Rattle.std.specs.Prelude.{Ok}
use Rattle.cells.specs.Read.{read_of}
use Rattle.cells.specs.Write.{write_call}
use Rattle.cells.proofs.Reading.FileRead.{read_cell}
use Rattle.cells.proofs.WritingBack.BackCheck.{read_after_write}
use Rattle.walks.specs.Claim.{Demand3}
use Rattle.drawn.specs.Claim.{DrawnMade, ReadMade, ChangeMade, EditMeans, EditRefused, CallsMean}
use Rattle.drawn.specs.Claim.{MadeDemand3, YardDemand3, RawDemand3, RawWalks}
use Rattle.drawn.specs.Claim.{MadeWritesAlike, SectionMeans, SectionReads, WriteReadStable}
use Rattle.drawn.proofs.Made as made
use Rattle.drawn.proofs.EditsMean as edits
use Rattle.drawn.proofs.CallsMean as means
use Rattle.drawn.proofs.DrawnDemand as demand
use Rattle.drawn.proofs.StoredDrawing as drawing
use Rattle.drawn.proofs.RawDemand as raw
use Rattle.drawn.proofs.TidyAsRead.{made_sized}
use Rattle.drawn.proofs.WriteSettles as settles

pub drawn_made : DrawnMade
drawn_made = made.drawn_new

pub read_made : ReadMade
read_made = made.drawn_read

pub change_made : ChangeMade
change_made = made.change_made

pub edit_means : EditMeans
edit_means = edits.edit_means

pub edit_refused : EditRefused
edit_refused = edits.edit_refused

pub calls_mean : CallsMean
calls_mean = means.calls_mean

pub made_demand_3 : MadeDemand3
made_demand_3 = demand.made_demand_3

pub yard_demand_3 : YardDemand3
yard_demand_3 = drawing.yard_demand_3

-- document 01's own claim is the instance of a cell as read
pub read_demand_3 : Demand3
read_demand_3 = drawing.read_demand_3

pub raw_demand_3 : RawDemand3
raw_demand_3 = raw.raw_demand_3

pub raw_walks : RawWalks
raw_walks = raw.raw_walks

pub made_writes_alike : MadeWritesAlike
made_writes_alike = demand.made_writes_alike

pub section_means : SectionMeans
section_means = settles.section_means

pub section_reads : SectionReads
section_reads m h section n e lent room =
    let s = take n (write_call m section).section in
    let a : (read_of s [] lent).answer ≡ (Ok tt) = read_after_write m lent (made_sized m h) section n e ∙ room in
    (a, read_cell s [] lent a ∙ settles.section_means m h section n e)

pub write_read_stable : WriteReadStable
write_read_stable m h section n e later =
    let first = settles.write_read_settles m h section n e in
    (first, settles.write_read_stable m h section n e later ∙ first)
