-- Cells whose numbers fit their fields, as every made cell's do, and cells whose coordinates and flags5 are stored
-- ones.
use mathlib.Core.Path.{◌≡◌}
use mathlib.Core.Bool.{Bool, true, false, cond}
use borrow.Author.Tests.{eqb-true}
use Rattle.std.proofs.lemmas.List.Elements.{All-get_or, All-from_get_or, All-weaker}
use Rattle.cells.specs.Lists.{every}
use Rattle.cells.specs.Cell.{Cell, no_node}
use Rattle.cells.specs.StoredCell.{no_junction}
use Rattle.cells.proofs.WritingBack.KeptCells.{KeptNode, KeptJunction, Kept}
use Rattle.cells.proofs.WritingBack.AsRead.{whole_map}
use Rattle.cells.proofs.Sequences.Tests.{every_at}
use Rattle.drawn.specs.Made.{FittedNode, FittedJunction, Fitted, StoredNode, StoredJunction, Stored}

-- what holds of both cells
pub cond_test : {A : Type 0} (P : A → Type 0) (b : Bool) (c d : A) → P c → P d → P (cond b c d)
cond_test P true c d s t = s
cond_test P false c d s t = t

-- what storing keeps, in three parts
pub all_kept : (c : Cell) → Fitted c → Stored c → every whole_map c.junctions ≡ true → Kept c
all_kept c f s w = record {
  nodes = All-from_get_or KeptNode c.nodes no_node (λ i lt.
      let a = All-get_or FittedNode c.nodes i no_node lt f.nodes in
      let b = All-get_or StoredNode c.nodes i no_node lt s.nodes in
      record {
        area = a.area;
        number = a.number;
        x = b.x;
        y = b.y;
        z = b.z;
        body = a.body;
        flags5 = b.flags5;
        links = a.links;
      });
  junctions = All-from_get_or KeptJunction c.junctions no_junction (λ i lt.
      let a = All-get_or FittedJunction c.junctions i no_junction lt f.junctions in
      let b = All-get_or StoredJunction c.junctions i no_junction lt s.junctions in
      record {
        x = b.x;
        y = b.y;
        low = b.low;
        high = b.high;
        width = a.width;
        height = a.height;
        full = eqb-true _ _ (every_at whole_map c.junctions i no_junction w lt);
        values = a.values;
      });
  refs = f.refs;
  vehicles = f.vehicles;
  peds = f.peds;
  vft = f.vft;
  seven = f.seven;
  words = f.words;
}

pub kept_fitted : (c : Cell) → Kept c → Fitted c
kept_fitted c h = record {
  nodes = All-weaker KeptNode FittedNode
      (λ n k. record { area = k.area; number = k.number; body = k.body; links = k.links }) c.nodes h.nodes;
  junctions = All-weaker KeptJunction FittedJunction
      (λ j k. record { width = k.width; height = k.height; values = k.values }) c.junctions h.junctions;
  refs = h.refs;
  vehicles = h.vehicles;
  peds = h.peds;
  vft = h.vft;
  seven = h.seven;
  words = h.words;
}

pub kept_stored : (c : Cell) → Kept c → Stored c
kept_stored c h = record {
  nodes = All-weaker KeptNode StoredNode (λ n k. record { x = k.x; y = k.y; z = k.z; flags5 = k.flags5 }) c.nodes
      h.nodes;
  junctions = All-weaker KeptJunction StoredJunction
      (λ j k. record { x = k.x; y = k.y; low = k.low; high = k.high }) c.junctions h.junctions;
}
