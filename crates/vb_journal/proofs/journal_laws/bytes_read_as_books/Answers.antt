use Rattle.std.proofs.Common.{refl}
use Rattle.vb_journal.specs.Reading.{front_of}
use Rattle.vb_journal.proofs.Fronts.{begins_as, begins_only}
use Rattle.vb_journal.proofs.Readings.{says_all, says_only}
use Rattle.vb_journal.proofs.journal_laws.bytes_read_as_books.Goals as goal

pub returns : goal.returns
returns c = record {
  begins = λ bytes. begins_as bytes (front_of bytes) refl;
  begins_so = begins_only;
  says = says_all;
  says_so = says_only;
}
