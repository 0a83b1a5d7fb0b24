-- The starred values of document 01 hold, all of them, by computation. Assumes nothing.
use mathlib.Core.Path.{◌≡◌, refl}
use mathlib.Core.Bool.{true}
use Rattle.lists.specs.Lists.{all}
use Rattle.octets.specs.Octets.{number_of, octets_of, same_numbers, all_are}
use Rattle.rows.specs.Rows.{row_key}
use Rattle.address.specs.Address.{family_of, address_words, address_key, address_number, is_zero}
use Rattle.keyed.specs.Keyed.{remove}
use Rattle.community.specs.Community.{election_under, community_octets, read_community}
use Rattle.places.specs.Places.{set_of, picked}
use Rattle.choice.specs.Choice.{best, best_in}
use Rattle.crc.specs.Crc.{crc_bit, crc_bits, crc_octet, crc_over, crc32_of}
use Rattle.hrw.specs.Weight.{weight_of}
use Rattle.agreement.specs.Agreement.{all_carry, in_use}
use Rattle.ready.specs.Ready.{on_list, eligible, candidates, candidate_set}
use Rattle.winner.specs.Winner.{better, elected}
use Rattle.tags.specs.Tags.{reserved_tag}
use Rattle.answers.specs.Answers.{answer_by}
use Rattle.election.specs.Election.{elect_of}
use Rattle.returning.specs.Returning.{all_under, reaches, fits, beside_reference, keeps_own, advertised, returning_of}
use Rattle.demand3.specs.Values.{starred, all_right}

pub starred-right : all_right starred ≡ true
unfolding all_right all number_of octets_of same_numbers all_are row_key family_of address_words address_key address_number is_zero remove election_under community_octets read_community set_of picked best best_in crc_bit crc_bits crc_octet crc_over crc32_of weight_of all_carry in_use on_list eligible candidates candidate_set better elected reserved_tag answer_by elect_of all_under reaches fits beside_reference keeps_own advertised returning_of
starred-right = refl
