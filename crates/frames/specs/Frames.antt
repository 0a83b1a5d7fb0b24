-- Records as they stand in the bench program's input (document 01, "The bench program"): the mark D5 4F, a kind octet, a length octet,
-- that many octets of payload. Whether a kind or a length is good is not judged here.
--   Front             == what can stand at the front of a run of octets:
--     nothing         ==   no octet
--     bad             ==   an octet of the mark that is wrong, whatever follows
--     cut             ==   the start of a record, and not the whole of it
--     whole k p r     ==   a whole record of kind k with the payload p, and the octets r after it
--   must m a f        == f if the octet a is m, else bad
--   front s           == what stands at the front of the octets s
--   located at f      == the answer for a front f that stands at position `at`: a payload starts four octets later
--   frame_at s at      == the answer for position `at` of the octets s
--   record_of k p      == the octets of the record of kind k with the payload p
use Rattle.std.specs.Prelude.{ℕ, ◌+◌, cond, List, [], ◌∷◌, length, take, drop, leb, eqb}
use Rattle.frames.specs.declared.Frame.{Frame}
use Rattle.frames.specs.declared.Frame.TheVariants.{Nothing, Bad, Cut, Whole}

pub data Front : Type 0 where
  nothing : Front
  bad : Front
  cut : Front
  whole : (kind : ℕ) (payload rest : List ℕ) → Front

abbrev pub must : ℕ → ℕ → Front → Front
must m a f = cond (eqb a m) f bad

unfoldable pub front : List ℕ → Front
front [] = nothing
front (a ∷ []) = must 0xD5 a cut
front (a ∷ b ∷ []) = must 0xD5 a (must 0x4F b cut)
front (a ∷ b ∷ k ∷ []) = must 0xD5 a (must 0x4F b cut)
front (a ∷ b ∷ k ∷ n ∷ s) = must 0xD5 a (must 0x4F b (cond (leb n (length s)) (whole k (take n s) (drop n s)) cut))

unfoldable pub located : ℕ → Front → Frame
located at nothing = Nothing
located at bad = Bad
located at cut = Cut
located at (whole k p r) = Whole k (at + 4) (length p)

unfoldable pub frame_at : List ℕ → ℕ → Frame
frame_at s at = located at (front (drop at s))

abbrev pub record_of : ℕ → List ℕ → List ℕ
record_of k p = 0xD5 ∷ 0x4F ∷ k ∷ length p ∷ p
