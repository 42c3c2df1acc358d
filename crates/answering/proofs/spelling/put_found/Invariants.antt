use Rattle.std.proofs.Common.{◌≡◌, ◌++◌, string_bytes, take}
use Rattle.std.specs.List.{flat_map}
use Rattle.answering.specs.Spelling.{extent_text}
use Rattle.answering.proofs.spelling.put_found.Given as goal

-- so far the extents before the index are written
abbrev pub invariant-loop-extent : goal.invariant-loop-extent
invariant-loop-extent l = string_bytes l.out ≡ string_bytes l.initial.out ++ flat_map extent_text (take l.extent-index l.extents)
