-- What may stand at the end of the input of the bench program (document 01, "The bench program").
--   is_part f == whether the front f is what may still become a record: nothing, or a cut record
use Rattle.std.specs.Prelude.{Bool, true, false}
use Rattle.frames.specs.Frames.{Front, nothing, bad, cut, whole}

unfoldable pub is_part : Front → Bool
is_part nothing = true
is_part bad = false
is_part cut = true
is_part (whole k p r) = false
