-- the first snapshot of a stream, as it is sent
use Rattle.std.proofs.Common.{◌≡◌, Bool, true, false, ℕ, if◌then◌else◌, List, [], ◌∷◌, map, Option, Some, None, refl, sym, ap, ◌∙◌, subst, arith}
use Rattle.std.specs.List.{All}
use Rattle.std.proofs.lemmas.Bool.Decides.{nat_tests}
use Rattle.std.proofs.lemmas.List.Elements.{All-map, All-weaker}
use Rattle.vb_types.specs.Histories.{plain, plain_act}
use Rattle.vb_types.specs.declared.change.Act.{Act}
use Rattle.vb_types.specs.declared.change.Act.TheVariants as act
use Rattle.vb_types.specs.declared.change.Change.{Change}
use Rattle.vb_types.specs.declared.stream.Snapshot.{Snapshot}
use Rattle.vb_types.specs.declared.stream.StreamAsk.{StreamAsk}
use Rattle.vb_events.specs.declared.event.StreamName.{StreamName}
use Rattle.dcp_producer.specs.declared.first.First.{First}
use Rattle.dcp_producer.specs.FirstMarkers.{AreItems, AreWrittenOut, IsStart, IsWrittenOut, MarksFirst, MeansFirst}
use Rattle.dcp_producer.specs.Firsts.{as_sent, first_of, items_sent, start_sent}
use Rattle.dcp_producer.specs.Frames.{marker_flags, marker_next}
use Rattle.dcp_producer.specs.Producers.{PlainStream}

-- ---- what holds of items holds of those that are sent for them

pub all_sent : (I : Change → Type 0) → ((c : Change) → I c → I (plain c)) → (marked : Option ℕ) (first : First) (items : List Change) → All I items → All I (items_sent marked first items)
all_sent I plains (Some end) first items all = all
all_sent I plains None first items all = by first.as_sets
  where
    by : (b : Bool) → All I (if b then map plain items else items)
    by true = All-map I plain items (All-weaker I (λ c. I (plain c)) plains items all)
    by false = all

-- ---- what is sent

written_act : (a : Act) → IsWrittenOut a (plain_act a)
written_act (act.Set doc) = refl
written_act (act.Remove cas rev) = refl
written_act (act.Prepare level doc deleted) = refl
written_act (act.Commit prepared doc true) = refl
written_act (act.Commit prepared doc false) = refl
written_act (act.Abort prepared) = refl

all_written : (changes : List Change) → AreWrittenOut changes (map plain changes)
all_written [] = tt
all_written (c ∷ changes) = (refl, refl, written_act c.act, all_written changes)

module _ (stream : PlainStream) (snapshot : Snapshot) where
  open snapshot use {start, items}

  pub starts_so : IsStart stream snapshot (start_sent stream.marked stream.first start)
  starts_so = record { first = λ none. ap (λ m. start_sent m stream.first start) none; later = by stream.marked refl }
    where
      by : (m : Option ℕ) → stream.marked ≡ m → (stream.marked ≡ None → ⊥) → start_sent m stream.first start ≡ start
      by None none some = absurd (some none)
      by (Some end) is some = refl

  pub items_so : AreItems stream snapshot (items_sent stream.marked stream.first items)
  items_so = record {
    sets = λ none sets. subst (AreWrittenOut items) (sym (ap (λ m. items_sent m stream.first items) none ∙ ap (λ b. if b then map plain items else items) sets)) (all_written items);
    same = λ other. by other stream.marked refl;
  }
    where
      unless : (b : Bool) → (b ≡ true → ⊥) → (if b then map plain items else items) ≡ items
      unless true other = absurd (other refl)
      unless false other = refl

      by : ((stream.marked ≡ None) × (stream.first.as_sets ≡ true) → ⊥) → (m : Option ℕ) → stream.marked ≡ m → items_sent m stream.first items ≡ items
      by other None none = unless stream.first.as_sets (λ sets. other (none, sets))
      by other (Some end) is = refl

  pub marks_first : (name : StreamName) → MarksFirst name stream snapshot (marker_next name stream (as_sent stream snapshot))
  marks_first name = record { start = _; starts = starts_so; flags = marker_flags snapshot.disk; items = _; are = items_so; is = refl }

-- ---- what a request means

pub means_first : (ask : StreamAsk) → MeansFirst ask (first_of ask)
means_first ask = record {
  at_end = λ e. grind (arith, nat_tests, e);
  within = λ other. grind (arith, nat_tests, other);
  sets = (λ e. grind (arith, nat_tests, e), λ low. grind (arith, nat_tests, low));
}
