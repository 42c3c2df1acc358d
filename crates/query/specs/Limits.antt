-- The limits of a query, each the code's constant. Assumes nothing.
--
-- | definition  | meaning                                               |
-- |-------------|-------------------------------------------------------|
-- | name_max    | a name has at most so many bytes                      |
-- | windows_max | a `#` has at most this number                         |
-- | runs_max    | an `@` has at most this number                        |
-- | open_max    | at most so many brackets stand open at once           |
-- | leaf_max    | a query has at most so many names, `#` and `@`        |
-- | steps_max   | it has at most so many steps                          |
use Rattle.std.specs.Prelude.{ℕ}
use Rattle.names.specs.Names.{name_limit}
use Rattle.query.specs.declared.limits.TheConstants.{WINDOWS_MAX, RUNS_MAX, OPEN_MAX, LEAF_MAX, STEPS_MAX}

abbrev pub name_max : ℕ
name_max = name_limit

abbrev pub windows_max : ℕ
windows_max = WINDOWS_MAX

abbrev pub runs_max : ℕ
runs_max = RUNS_MAX

abbrev pub open_max : ℕ
open_max = OPEN_MAX

abbrev pub leaf_max : ℕ
leaf_max = LEAF_MAX

abbrev pub steps_max : ℕ
steps_max = STEPS_MAX
