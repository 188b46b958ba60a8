-- The laws that functions of the set's calls go by, for the check.
use Rattle.std.proofs.lemmas.List.{get_or_default}
use Rattle.std.proofs.lemmas.List.Edits.{map_over_more}
use Rattle.numbers.proofs.Refusing.{tested, decided_append}
use Rattle.sets.proofs.PartLaws.{start_next, behind_part}
use Rattle.sets.proofs.CellSetLaws.{areas_many, area_there, first_there, first_none}
use Rattle.sets.proofs.LeaveLaws.{found_by}
use Rattle.sets.proofs.RoomLaws.{few_members, held_no, held_yes, over_many, over_nodes, over_else}
use Rattle.sets.proofs.CrossLaws.{lent_many, named_there}
use Rattle.sets.proofs.CrossCases.{starts, walked}
use Rattle.sets.proofs.ArrivalLaws.{meets_it, meets_other}
use Rattle.sets.proofs.JoinLaws.{not_held, list_held, cell_short, part_small, part_large, part_behind}
use Rattle.sets.proofs.JoinLaws.{tenth, beyond, member_over, cell_over}
use Rattle.sets.proofs.JoinLaws.{few_of}

pub ruleset fit_laws = (not_held, list_held, cell_short, part_small, part_large, part_behind)

pub ruleset over_laws = (tenth, beyond, member_over, cell_over)

pub ruleset join_laws = (few_of, decided_append, tested)

-- ---- limits, and lists that hold the members

pub ruleset few_laws = (tested, few_members)

-- ---- areas and members

pub ruleset area_laws = (start_next, behind_part, areas_many, area_there, first_there, first_none, found_by)

pub ruleset meet_laws = (lent_many, meets_it, meets_other)

-- ---- parts of the lists

pub ruleset map_laws = (map_over_more, get_or_default)

-- ---- calls

pub ruleset start_laws = (few_members, starts, walked)
