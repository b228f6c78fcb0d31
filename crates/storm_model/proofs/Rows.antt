-- rows in numbers
use Rattle.std.proofs.Common.{refl, ap}
use Rattle.std.specs.Fmt.{digits}
use Rattle.storm_model.specs.Writes.{all_writes}
use Rattle.storm_model.specs.Texts.{counts_text, reads_text, lines_text}
use Rattle.storm_model.proofs.Quick.{lines_are}
use Rattle.storm_model.specs.Rows.{WordsInNumbers, WritesInNumbers, StormsInNumbers, LimitsInNumbers}

pub words : WordsInNumbers
words = record { start = (refl, refl); wraps = (refl, refl); first = (refl, refl); more = (refl, refl, refl); vbs = (refl, refl, refl, refl) }

pub writes : WritesInNumbers
unfolding digits all_writes
writes = record { one = refl; three = refl; other = refl; of_one = (refl, refl); none = refl; last_key = (refl, refl) }

pub storms : StormsInNumbers
unfolding digits all_writes counts_text reads_text lines_text
storms = record { one = ap (lines_text 0) (lines_are 0 1 1 refl); six = ap (lines_text 0) (lines_are 7 2 3 refl); again = ap (lines_text 0) (lines_are 338 1 2 refl); digits = (refl, refl, refl) }

pub limits : LimitsInNumbers
limits = record { limits = (refl, refl); least = (refl, refl, refl, refl); clients = (refl, refl, refl); writes = (refl, refl, refl); all = (refl, refl, refl, refl) }
