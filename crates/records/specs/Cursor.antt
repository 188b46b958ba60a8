-- Section 2: the root is read through a cursor, a struct over the lent section.
use Rattle.std.specs.Prelude.{ℕ, ◌+◌}
use Rattle.records.specs.declared.cursor.Cursor.{Cursor}

-- The same section, so many bytes on. No public function's contract cites this: the function `root_of` is stated by
-- the definition `root_of`.
abbrev pub moved_on : ℕ → Cursor → Cursor
moved_on n c = record { section = c.section; offset = c.offset + n }
