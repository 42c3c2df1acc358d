-- The bytes of answers. Assumes nothing.
--
--   extent_text   an extent on a line: its first slot, a space, its last slot
--   found_text    how many extents and calls, and a line for each extent
--   answer_text   a refusal's text on a line, where there is one; else what was found, with the calls capped
use Rattle.std.specs.Prelude.{ℕ, List, ◌++◌, length, codes, decimal, Some, None, Option}
use Rattle.std.specs.List.{flat_map}
use Rattle.console.specs.Cuts.{line_end}
use Rattle.extents.specs.Counts.{capped}
use Rattle.extents.specs.declared.extent.Extent.{Extent}

abbrev pub extent_text : Extent → List ℕ
extent_text e = decimal e.start ++ (codes " " ++ (decimal e.end ++ line_end))

abbrev pub found_text : ℕ → List Extent → List ℕ
found_text calls extents = codes "found " ++ (decimal (length extents) ++ (codes " calls " ++ (decimal calls ++ (line_end ++ flat_map extent_text extents))))

abbrev pub answer_text : {F : Type 0} → (F → List ℕ) → Option F → List Extent → ℕ → List ℕ
answer_text text None xs calls = found_text (capped calls) xs
answer_text text (Some fault) xs calls = text fault ++ line_end
