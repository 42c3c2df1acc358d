-- The two areas of one search after another. Assumes nothing.
--
--   areas_of w       what its two areas hold
--   blank_areas n    two areas of n extents each, all (0,0)
use Rattle.std.specs.Prelude.{ℕ, replicate}
use Rattle.search.specs.declared.area.WorkAreas.{WorkAreas}
use Rattle.search.specs.Law.{Areas, areas}
use Rattle.search.specs.Searches.{blank}

abbrev pub areas_of : WorkAreas → Areas
areas_of w = areas w.stack.items w.scratch.items

abbrev pub blank_areas : ℕ → Areas
blank_areas n = areas (replicate n blank) (replicate n blank)
