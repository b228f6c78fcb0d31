-- what a producer sends of a snapshot that its vBucket gave: a first one from where the request means
use Rattle.std.specs.Prelude.{◌≡◌, ◌∷◌, if◌then◌else◌}
use Rattle.branch_model.proofs.Lists.{rises_map}
use Rattle.branch_model.specs.Histories.{StandsAs}
use Rattle.dcp_producer.specs.Firsts.{first_of, items_sent, start_sent}
use Rattle.dcp_producer.specs.declared.first.First.{First}
use Rattle.transcript_law.proofs.indexers.Shown.{in_map, mapped_in}
use Rattle.transcript_law.proofs.Words.{ℕ, Bool, true, false, List, [], map, refl, ap, sym, ◌∙◌, subst, inl, inr, Option, Some, None, is_some, Act, Change, Covers, PlainStream, Stream, effective_ss, last_seq}
use Rattle.vb_types.specs.Histories.{plain, plain_act}
use Rattle.vb_types.specs.declared.change.Act.TheVariants as act

-- ---- commits that are written out

plain_act_twice : (a : Act) → plain_act (plain_act a) ≡ plain_act a
plain_act_twice (act.Set doc) = refl
plain_act_twice (act.Remove cas rev) = refl
plain_act_twice (act.Prepare level doc deleted) = refl
plain_act_twice (act.Commit prepared doc true) = refl
plain_act_twice (act.Commit prepared doc false) = refl
plain_act_twice (act.Abort prepared) = refl

-- what is written out stays so
pub plain_twice : (c : Change) → plain (plain c) ≡ plain c
plain_twice c = λ i. record { seq = c.seq; key = c.key; act = plain_act_twice c.act i }

still_stands : (x c : Change) → StandsAs x c → StandsAs (plain x) c
still_stands x c (inl same) = inr (ap plain same)
still_stands x c (inr out) = inr (ap plain out ∙ plain_twice c)

last_plain : (from : ℕ) (cs : List Change) → last_seq from (map plain cs) ≡ last_seq from cs
last_plain from [] = refl
last_plain from (c ∷ cs) = last_plain c.seq cs

covers_plain : (items h : List Change) (from end : ℕ) → Covers items h from end → Covers (map plain items) h from end
covers_plain items h from end covers = record {
  goes_on = covers.goes_on;
  remains = record {
    rises = rises_map plain (λ c. refl) from end items covers.remains.rises;
    of = λ x i. let (y, there, is) = in_map plain items x i in let (c, held, as_) = covers.remains.of y there in (c, held, subst (λ z. StandsAs z c) (sym is) (still_stands y c as_));
    has = λ slot c e above within. let (x, there, as_) = covers.remains.has slot c e above within in (plain x, mapped_in plain items x there, still_stands x c as_);
  };
  reaches = last_plain from items ∙ covers.reaches;
}

-- a whole snapshot is sent as one
pub covers_sent : (marked : Option ℕ) (first : First) (items h : List Change) (from end : ℕ) → Covers items h from end → Covers (items_sent marked first items) h from end
covers_sent (Some e) first items h from end covers = covers
covers_sent None first items h from end covers = by first.as_sets
  where
    by : (b : Bool) → Covers (if b then map plain items else items) h from end
    by true = covers_plain items h from end covers
    by false = covers

-- ---- where its marker starts

-- where a stream's next marker starts: the first one where the request means
abbrev pub start_of : Stream → ℕ
start_of s = if s.taken then s.place else effective_ss s.ask.start s.ask.ss s.ask.se

pub starts_sent : (s : Stream) (t : PlainStream) → t.first ≡ first_of s.ask → (m : Option ℕ) → is_some m ≡ s.taken → start_sent m t.first s.place ≡ start_of s
starts_sent s t first (Some e) is = ap (λ b. if b then s.place else effective_ss s.ask.start s.ask.ss s.ask.se) is
starts_sent s t first None is = ap (λ (f : First). f.start) first ∙ ap (λ b. if b then s.place else effective_ss s.ask.start s.ask.ss s.ask.se) is
