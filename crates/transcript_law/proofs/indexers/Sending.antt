-- what a snapshot of a client's stream sends for each change that its vBucket holds
use Rattle.std.specs.Prelude.{◌≡◌, ◌<◌, ◌==◌, ◌&&◌, ◌||◌, nat_lt, if◌then◌else◌}
use Rattle.transcript_law.proofs.Words.{ℕ, Bool, true, false, not, List, map, refl, ap, sym, ◌∙◌, arith, nat_tests, Option, Some, None, is_some, Act, Begun, Change, IsIn, PlainStream, Stream, StreamAsk, effective_se, need_of}
use Rattle.dcp_producer.specs.Firsts.{first_of, items_sent}
use Rattle.dcp_producer.specs.declared.first.First.{First}
use Rattle.transcript_law.proofs.indexers.Shown.{in_map}
use Rattle.transcript_law.proofs.invariant.{ClientsTold.{StartedAt}, FirstMarks.{plain_twice}}
use Rattle.transcript_law.specs.LawfulClients.{IsSentOf, starts_below, writes_out}
use Rattle.transcript_law.specs.StreamLaws.{meant_end, meant_start}
use Rattle.transcript_law.specs.StreamsTold.{ClientStream}
use Rattle.vb_types.specs.Histories.{plain, plain_act}
use Rattle.vb_types.specs.declared.change.Act.TheVariants as act
use Rattle.vbucket.specs.Takes.{IsSentFor, IsWrittenOut}

written_plain : (a b : Act) → IsWrittenOut a b → b ≡ plain_act a
written_plain (act.Set doc) b e = e
written_plain (act.Remove cas rev) b e = e
written_plain (act.Prepare level doc deleted) b e = e
written_plain (act.Commit prepared doc true) b e = e
written_plain (act.Commit prepared doc false) b e = e
written_plain (act.Abort prepared) b e = e

-- a change is given so, by whether the stream is sync
given_by : (o : Stream) (c x : Change) → IsSentFor o c x → (t : Bool) → o.sync ≡ t → x ≡ (if t then c else plain c)
given_by o c x f true e = λ i. record { seq = f.seq i; key = f.key i; act = f.as_is e i }
given_by o c x f false e = λ i. record { seq = f.seq i; key = f.key i; act = written_plain c.act x.act (f.out e) i }

-- and is the same once its commits are written out
given_out : (o : Stream) (c x : Change) → IsSentFor o c x → plain x ≡ plain c
given_out o c x f = by o.sync refl
  where
    by : (t : Bool) → o.sync ≡ t → plain x ≡ plain c
    by true e = ap plain (given_by o c x f true e)
    by false e = ap plain (given_by o c x f false e) ∙ plain_twice c

and_true : (b : Bool) → (b && true) ≡ b
and_true true = refl
and_true false = refl

and_false : (b : Bool) → (b && false) ≡ false
and_false true = refl
and_false false = refl

-- what its next snapshot needs
pub first_need : (g : ClientStream) (o : Stream) → o.ask ≡ g.ask → o.taken ≡ is_some g.last → g.last ≡ None → need_of o ≡ meant_end g.ask
first_need g o ask taken e = ap (λ b. if b then 0 else effective_se o.ask.start o.ask.ss o.ask.se) (taken ∙ ap is_some e) ∙ ap (λ (k : StreamAsk). effective_se k.start k.ss k.se) ask

module _ (g : ClientStream) (t : PlainStream) (o : Stream) (sync : o.sync ≡ g.sync) (first : t.first ≡ first_of g.ask) (started : StartedAt g.last g) (b : Begun) (from : b.from ≡ g.place) (memory : b.disk ≡ false) where
  -- whether the snapshot starts below the request's start
  later_below : (last : Option Begun) → is_some last ≡ true → StartedAt last g → starts_below g b ≡ false
  later_below None e s = cc
  later_below (Some k) e s =
      let above : g.ask.start < g.place = s in
      let apart : (b.from == g.ask.start) ≡ false = grind (arith, nat_tests, from, above) in ap (λ q. q && nat_lt (meant_start g.ask) g.ask.start) apart

  first_below : (last : Option Begun) → is_some last ≡ false → StartedAt last g → starts_below g b ≡ t.first.as_sets
  first_below None e s =
      let there : g.place ≡ g.ask.start = s in
      let same : (b.from == g.ask.start) ≡ true = grind (arith, nat_tests, from, there) in ap (λ q. q && nat_lt (meant_start g.ask) g.ask.start) same ∙ ap (λ (f : First). f.as_sets) (sym first)
  first_below (Some k) e s = cc

  -- commits of a snapshot from memory are written out where it does
  out_by : (low : Bool) → starts_below g b ≡ low → writes_out g b ≡ low
  out_by low e = ap (λ d. d || starts_below g b) memory ∙ e

  -- each is sent as it is to be sent
  pub sent_so : (items held : List Change) → ((x : Change) → IsIn x items → (c : Change) × IsIn c held × IsSentFor o c x) → (m : Option ℕ) → is_some m ≡ is_some g.last → (y : Change) → IsIn y (items_sent m t.first items) → IsSentOf g b held y
  sent_so items held of m is y i = by m is i
    where
      as_given : (y : Change) → IsIn y items → writes_out g b ≡ false → IsSentOf g b held y
      as_given y j low =
          let (c, there, f) = of y j in
          (c, there, given_by o c y f g.sync sync ∙ ap (λ q. if q then c else plain c) (sym (and_true g.sync) ∙ ap (λ q. g.sync && not q) (sym low)))

      first_by : (q : Bool) → t.first.as_sets ≡ q → is_some g.last ≡ false → IsIn y (if q then map plain items else items) → IsSentOf g b held y
      first_by false e none j = as_given y j (out_by false (first_below g.last none started ∙ e))
      first_by true e none j =
          let (x, inside, same) = in_map plain items y j in
          let (c, there, f) = of x inside in
          let low : writes_out g b ≡ true = out_by true (first_below g.last none started ∙ e) in
          (c, there, same ∙ given_out o c x f ∙ ap (λ q. if q then c else plain c) (sym (and_false g.sync) ∙ ap (λ q. g.sync && not q) (sym low)))

      by : (m : Option ℕ) → is_some m ≡ is_some g.last → IsIn y (items_sent m t.first items) → IsSentOf g b held y
      by (Some end) is j = as_given y j (out_by false (later_below g.last (sym is) started))
      by None is j = first_by t.first.as_sets refl (sym is) j
