use Rattle.transcript_law.proofs.rows.OwnWaitRows.{any_await, awaits_own, elsewhere_named, left, none_await, nowhere, plain_write, rises, unasked}
use Rattle.transcript_law.proofs.waits.judged_own_waits.Goals as goal

pub returns : goal.returns
returns c = record {
  own = λ asking q write wish a states next asks one. awaits_own asking a states q write wish next asks one;
  unasked = unasked;
  plain = λ asking q write a states next asks f. plain_write asking a states q write next asks f;
  elsewhere = elsewhere_named;
  empty = none_await;
  nowhere = nowhere;
  any = any_await;
  rises = λ line told node client a has all. rises told line node client a has all;
  left = λ line told node client a last has f. left told line node client a last has f;
  unnumbered = λ told node client. tt;
}
