-- The answers of a segment's calls in the structs that C reads, besides those of `export_forms`.
--   sent_of s           == what a returning router sends, field by field
use Rattle.returning.specs.Returning as returning
use Rattle.exports.specs.declared.Sent.{Sent}

abbrev pub sent_of : returning.Sent → Sent
sent_of s = record { number = s.number; preference = s.preference; dp = s.dp }
