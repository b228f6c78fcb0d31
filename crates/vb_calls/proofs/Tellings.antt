-- what a few calls are answered, by cases of the answer
use Rattle.std.proofs.Common.{◌≡◌, ◌≢◌, ◌⊎◌, ◌<◌, Bool, inl, inr, ⊎_elim, ℕ, refl, arith}
use Rattle.vb_types.specs.declared.stream.AskAnswer.{AskAnswer}
use Rattle.vb_types.specs.declared.stream.AskAnswer.TheVariants as asked
use Rattle.vb_types.specs.declared.stream.StreamAsk.{StreamAsk}
use Rattle.vb_calls.specs.Forms.{HasForm, IsDenied}
use Rattle.vb_calls.specs.Tellings.{AreAnsweredSo, IsDues, IsFlag, IsOpening}
use Rattle.vb_calls.specs.declared.calls.VbAnswer.{VbAnswer}
use Rattle.vb_calls.specs.declared.calls.VbAnswer.TheVariants as answer
use Rattle.vb_calls.specs.declared.calls.VbCall.TheVariants as call

-- one of three that are none
none : {A : Type 0} → ⊥ ⊎ (⊥ ⊎ ⊥) → A
none h = ⊎_elim (λ e. absurd e) (λ r. ⊎_elim (λ e. absurd e) (λ e. absurd e) r) h

flags : (id : ℕ) (a : VbAnswer) → HasForm (call.CloseStream id) a ⊎ (HasForm (call.DropCursor id) a ⊎ HasForm call.Seal a) → IsFlag a
flags id (answer.Status st) h = none h
flags id answer.Absent h = none h
flags id answer.Nothing h = none h
flags id answer.Done h = none h
flags id (answer.Flag did) h = (did, refl)
flags id (answer.Num n) h = none h
flags id (answer.Dues seq saved) h = none h
flags id (answer.Branch uuid parent fork high) h = none h
flags id (answer.Found doc) h = none h
flags id (answer.Stored uuid seq cas) h = none h
flags id (answer.Prepared seq cas) h = none h
flags id (answer.Asked said log high) h = none h
flags id (answer.Opened log high from) h = none h
flags id (answer.Placed place) h = none h
flags id (answer.Taken snapshot) h = none h
flags id (answer.Rows batch) h = none h
flags id (answer.Stat windows items cursors saved high) h = none h
flags id (answer.Named ask) h = none h
flags id (answer.Range ss se) h = none h
flags id (answer.Logged log) h = none h
flags id (answer.Shown role uuid ss se at image) h = none h

trims : (a : VbAnswer) → HasForm call.Trim a → (removed : ℕ) × (a ≡ answer.Num removed)
trims (answer.Status st) h = absurd h
trims answer.Absent h = absurd h
trims answer.Nothing h = absurd h
trims answer.Done h = absurd h
trims (answer.Flag did) h = absurd h
trims (answer.Num n) h = (n, refl)
trims (answer.Dues seq saved) h = absurd h
trims (answer.Branch uuid parent fork high) h = absurd h
trims (answer.Found doc) h = absurd h
trims (answer.Stored uuid seq cas) h = absurd h
trims (answer.Prepared seq cas) h = absurd h
trims (answer.Asked said log high) h = absurd h
trims (answer.Opened log high from) h = absurd h
trims (answer.Placed place) h = absurd h
trims (answer.Taken snapshot) h = absurd h
trims (answer.Rows batch) h = absurd h
trims (answer.Stat windows items cursors saved high) h = absurd h
trims (answer.Named ask) h = absurd h
trims (answer.Range ss se) h = absurd h
trims (answer.Logged log) h = absurd h
trims (answer.Shown role uuid ss se at image) h = absurd h

dues : (a : VbAnswer) → HasForm call.Due a → IsDues a
dues (answer.Status st) h = inr (st, refl)
dues answer.Absent h = absurd h
dues answer.Nothing h = absurd h
dues answer.Done h = absurd h
dues (answer.Flag did) h = absurd h
dues (answer.Num n) h = absurd h
dues (answer.Dues seq saved) h = inl (seq, saved, refl)
dues (answer.Branch uuid parent fork high) h = absurd h
dues (answer.Found doc) h = absurd h
dues (answer.Stored uuid seq cas) h = absurd h
dues (answer.Prepared seq cas) h = absurd h
dues (answer.Asked said log high) h = absurd h
dues (answer.Opened log high from) h = absurd h
dues (answer.Placed place) h = absurd h
dues (answer.Taken snapshot) h = absurd h
dues (answer.Rows batch) h = absurd h
dues (answer.Stat windows items cursors saved high) h = absurd h
dues (answer.Named ask) h = absurd h
dues (answer.Range ss se) h = absurd h
dues (answer.Logged log) h = absurd h
dues (answer.Shown role uuid ss se at image) h = absurd h

-- a number above 0 is not 0
above : (id : ℕ) → 0 < id → id ≢ 0
above id l z = grind (arith)

denied : (said : AskAnswer) → IsDenied said → said ≢ asked.Go
denied asked.Go d e = d
denied (asked.Roll to) d e = cc
denied (asked.Refuse code) d e = cc

opens : (id : ℕ) (ask : StreamAsk) (sync : Bool) (a : VbAnswer) → HasForm (call.OpenStream id ask sync) a → IsOpening id a
opens id ask sync (answer.Status st) h = absurd h
opens id ask sync answer.Absent h = absurd h
opens id ask sync answer.Nothing h = absurd h
opens id ask sync answer.Done h = absurd h
opens id ask sync (answer.Flag did) h = absurd h
opens id ask sync (answer.Num n) h = absurd h
opens id ask sync (answer.Dues seq saved) h = absurd h
opens id ask sync (answer.Branch uuid parent fork high) h = absurd h
opens id ask sync (answer.Found doc) h = absurd h
opens id ask sync (answer.Stored uuid seq cas) h = absurd h
opens id ask sync (answer.Prepared seq cas) h = absurd h
opens id ask sync (answer.Asked said log high) h = inr (said, log, high, refl, denied said h.0, h.1)
opens id ask sync (answer.Opened log high from) h = inl (log, high, from, refl, above id h.0, h.1)
opens id ask sync (answer.Placed place) h = absurd h
opens id ask sync (answer.Taken snapshot) h = absurd h
opens id ask sync (answer.Rows batch) h = absurd h
opens id ask sync (answer.Stat windows items cursors saved high) h = absurd h
opens id ask sync (answer.Named named) h = absurd h
opens id ask sync (answer.Range ss se) h = absurd h
opens id ask sync (answer.Logged log) h = absurd h
opens id ask sync (answer.Shown role uuid ss se at image) h = absurd h

pub answered_so : AreAnsweredSo
answered_so = record {
  closes = λ id a h. flags id a (inl h);
  drops = λ id a h. flags id a (inr (inl h));
  seals = λ a h. flags 0 a (inr (inr h));
  trims = trims;
  dues = dues;
  opens = opens;
}
