-- Section 4, each public field's store: a node's links, or a junction's values, replaced by c others. Of l entries in
-- all it has e, from s on. No more than before stand where they stood; more stand behind all others. So no other range
-- moves. Entries that are no one's any more stay in the list.
use Rattle.std.specs.Prelude.{ℕ, ◌+◌, cond, eqb, leb}

-- where they start; none start at 0, as a new node's
unfoldable pub place_for : ℕ → ℕ → ℕ → ℕ → ℕ
place_for s e c l = cond (eqb c 0) 0 (cond (leb c e) s l)

-- how many entries there are in all afterwards
unfoldable pub pool_after : ℕ → ℕ → ℕ → ℕ
pool_after e c l = cond (leb c e) l (l + c)
