-- The laws that functions go by, for the check.
use lib.Seq.{length-take-le, take_all}
use Rattle.std.proofs.lemmas.List.{drop_all}
use mir.ValLaws.{to_z-of_z}
use borrow.Author.Rules.{sfits_of}
use Rattle.std.proofs.lemmas.List.Edits.{swap_is}
use Rattle.std.proofs.lemmas.Slice.Zip.{zip_turn, zip_end}
use Rattle.cells.proofs.Sequences.Moved.{exchange_less, below_t}
use Rattle.cells.proofs.Renumbering.NumberTable.{old_front, table_turn, table_all}
use Rattle.cells.proofs.Renumbering.Placed.{peds_are}
use borrow.Author.Tests.{lt-ltb, le-ltb, le-leb, leb-false, eq-eqb, ne_eqb}
use Rattle.numbers.proofs.Refusing.{tested}
use Rattle.cells.proofs.Sequences.Filled.{mapped_turn, fill_all}
use Rattle.cells.proofs.Reading.ReadLaws.{holds, nodes_few, junctions_few, refs_few}
use Rattle.cells.proofs.Reading.ReadLaws.{links_fit_word, heights_fit_word, scan_start, scan_hit, scan_on, scan_end}
use Rattle.cells.proofs.Reading.ReadLaws.{sum_next, sum_room, fill_turn, join_turn, small, part_short}
use Rattle.cells.proofs.Reading.Whole.{node_range_inside, junction_range_inside}
use Rattle.cells.proofs.Lookups.LookupLaws.{find_at, find_past, find_other}
use Rattle.cells.proofs.Renumbering.Looked.{places_long, last_inside, place_below, looked_up, left_alone}
use Rattle.cells.proofs.Renumbering.Looked.{relinked_own, relinked_other}
use Rattle.cells.proofs.Renumbering.Named.{index_starts, index_turn, last_here, last_nowhere}
use Rattle.cells.proofs.Renumbering.CellRenumbered.{number_length}
use Rattle.cells.proofs.Renumbering.Reordered.{are_places, places_many, place_at, number_turn}
use Rattle.cells.proofs.WritingBack.BackAnswer.{back_told}
use Rattle.cells.proofs.Editing.EditLaws.{held_bound, lent_false}
use Rattle.cells.proofs.Editing.Inserted.{behind_bound, held_few}
use Rattle.records.proofs.Puts.{joined_ended}
use Rattle.records.proofs.RecordBack.{junction_length}
use Rattle.cells.proofs.Writing.EntryTurns.{node_room, node_behind, node_laid, node_inside}
use Rattle.cells.proofs.Writing.EntryTurns.{map_room, map_put, map_laid, map_inside}
use Rattle.cells.proofs.Writing.BlockLaws.{nodes_length, record_length, junctions_length, links_length, refs_length}
use Rattle.cells.proofs.Writing.BlockSteps.{array_room, array_put}
use Rattle.records.proofs.Laid.{lay_done}
use Rattle.cells.proofs.Sequences.Turns.{joined_room, joined_none, joined_put, joined_behind, laid_put, laid_ended}
use Rattle.cells.proofs.Writing.Ranges.{link_count_law, value_count_law, links_size}
use Rattle.cells.proofs.Writing.Starts.{start_sum}
use Rattle.cells.proofs.Writing.CheckTurns.{nodes_end, nodes_8, nodes_9, nodes_next}
use Rattle.cells.proofs.Writing.CheckTurns.{junctions_end, junctions_10, junctions_next}
use Rattle.records.proofs.Puts.{put_fits}
use Rattle.records.proofs.Laid.{header_length}
use Rattle.cells.proofs.Writing.WriteSteps.{stored_in, section_put, nodes_say, junctions_say, rooted, ending}
use Rattle.cells.proofs.Writing.WriteSteps.{arrays_room, stored_fits}
use Rattle.cells.proofs.Writing.WriteSteps.{counts_refused, list_refused, goes_on}

pub ruleset range_laws = (tested, leb-false, lent_false, held_bound)

pub ruleset scan_laws = (scan_start, scan_hit, scan_on, scan_end, sum_next, lt-ltb, le-ltb)

pub ruleset fill_laws = (sum_room, sum_next, fill_turn, join_turn)

pub ruleset sections_laws = (small, part_short)

pub ruleset read_laws = (
  length-take-le,
  holds,
  nodes_few,
  junctions_few,
  refs_few,
  links_fit_word,
  heights_fit_word,
  node_range_inside,
  junction_range_inside,
)

pub ruleset find_laws = (find_at, find_past, find_other)

pub ruleset index_laws = (index_starts, index_turn)

pub ruleset table_laws = (zip_turn, zip_end, table_turn, table_all, places_many, place_at)

pub ruleset looked_laws = (places_long, last_inside, place_below, looked_up, left_alone)

pub ruleset last_laws = (last_here, last_nowhere)

pub ruleset relink_laws = (relinked_own, relinked_other, mapped_turn, take_all, drop_all)

pub ruleset mapped_laws = (mapped_turn, take_all, drop_all)

pub ruleset number_laws = (number_turn, fill_all, number_length)

pub ruleset move_laws = (are_places, places_many)

pub ruleset file_laws = (to_z-of_z, sfits_of)

pub ruleset permute_laws = (exchange_less, swap_is, below_t)

pub ruleset renumber_laws = (old_front, peds_are)

pub ruleset zero_tests = (eq-eqb, ne_eqb)

pub ruleset node_turns = (nodes_end, nodes_8, nodes_9, nodes_next, start_sum)

pub ruleset junction_turns = (junctions_end, junctions_10, junctions_next)

pub ruleset room_laws = (ending, arrays_room, stored_fits, lt-ltb, le-leb)

pub ruleset store_laws = (room_laws, put_fits, stored_in, section_put, rooted, header_length)

pub ruleset write_laws = (counts_refused, list_refused, goes_on)

pub ruleset heights_laws = (map_room, map_put, joined_ended, joined_none)

-- for a function that puts what each entry makes
pub ruleset joined_laws = (joined_room, joined_put, joined_ended, joined_none)

pub ruleset links_laws = (node_room, node_behind, joined_ended, joined_none, links_size, link_count_law)

pub ruleset junctions_laws = (
  junctions_length,
  junction_length,
  value_count_law,
  map_inside,
  map_laid,
  laid_ended,
)

pub ruleset nodes_laws = (nodes_length, record_length, link_count_law, node_inside, start_sum, node_laid, laid_ended)

pub ruleset arrays_laws = (array_room, array_put, lay_done, refs_length, junctions_length, links_length, nodes_length)

pub ruleset counts_laws = (tested, nodes_say, junctions_say)

pub ruleset behind_laws = (behind_bound, held_few)

pub ruleset shifted_laws = (tested, mapped_turn, take_all, drop_all)

pub ruleset back_laws = (room_laws, back_told)
