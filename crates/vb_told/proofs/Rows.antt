-- the rows of a job of two calls
use Rattle.std.proofs.Common.{◌≡◌, refl, ap, Option, None, Some}
use Rattle.vb_calls.specs.declared.calls.VbReply.{VbReply}
use Rattle.vb_calls.specs.Shelves.{Idle, Flush}
use Rattle.vb_told.specs.Rows.{JobsInNumbers, empty_log}

not_none : None ≡ empty_log → ⊥
not_none e = cc

pub rows : JobsInNumbers
rows = record {
  made = λ high flush. (refl, refl, (flush, (refl, refl, refl)));
  front = λ high. (tt, (refl, refl, (Idle, tt)), (refl, refl, (Idle, (refl, refl, tt))));
  fewer = λ high a t. t.2.1;
  turned = λ high a t. cc;
  other = λ high a t. cc;
  more = λ high t. t.2.1.2;
  ends = λ high flush t. not_none (ap (λ (x : Flush × Option VbReply). x.1) t.2.1.2);
  lists = λ high. (refl, refl);
}
