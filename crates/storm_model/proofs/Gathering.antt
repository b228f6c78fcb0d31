-- the histories of a storm, gathered from what each caller did
use Rattle.std.proofs.Common.{◌≡◌, ℕ, ◌||◌, Bool, true, false, cond, List, [], ◌∷◌, refl, ap, sym, ◌∙◌}
use Rattle.std.specs.List.{filter}
use Rattle.vb_calls.specs.declared.calls.VbCall.{VbCall}
use Rattle.vb_calls.specs.declared.calls.VbCall.TheVariants as call
use Rattle.vb_calls.specs.declared.calls.VbReply.{VbReply}
use Rattle.storm_model.specs.Histories.{GathersStorm, IsStormed, is_by, is_call_by, stores}
use Rattle.storm_model.specs.Merging.{entries}
use Rattle.storm_model.specs.Writes.{writes_of}
use Rattle.storm_model.proofs.Own.{own_order}
use Rattle.storm_model.proofs.Owners.{by_own, writes_by}
use Rattle.storm_model.proofs.Parts.{part_has_all}

-- the writes of a client's calls are the client's of all writes
by_call : (c : ℕ) (k : VbCall) (r : VbReply) (log : List (VbCall × VbReply)) → filter (is_by c) (stores log) ≡ stores (filter (is_call_by c) log)
    → filter (is_by c) (stores ((k, r) ∷ log)) ≡ stores (filter (is_call_by c) ((k, r) ∷ log))
by_call c (call.Store write clock) r log e = chosen (is_by c write)
  where
    chosen : (b : Bool) → cond b (write ∷ filter (is_by c) (stores log)) (filter (is_by c) (stores log))
        ≡ stores (cond (b || false) ((call.Store write clock, r) ∷ filter (is_call_by c) log) (filter (is_call_by c) log))
    chosen true = ap (λ t. write ∷ t) e
    chosen false = e
by_call c other r log e = e

stores_by : (c : ℕ) (log : List (VbCall × VbReply)) → filter (is_by c) (stores log) ≡ stores (filter (is_call_by c) log)
stores_by c [] = refl
stores_by c (e ∷ log) = by_call c e.0 e.1 log (stores_by c log)

pub gathered : (seed clients writes v : ℕ) (log : List (VbCall × VbReply)) (mine : List (ℕ × (VbCall × VbReply))) (part : ℕ → List (ℕ × (VbCall × VbReply)))
    → GathersStorm seed clients writes v log mine part → IsStormed seed clients writes v log
gathered seed clients writes v log mine part g = record {
  legal = g.legal;
  calls = g.calls;
  owned = g.owned;
  order = λ c l.
      stores_by c log
      ∙ ap stores (own_order (is_call_by c) log (part c) (g.rising c l) (g.stands c l) (part_has_all (is_call_by c) log mine (part c) g.stand g.all (g.only c l)))
      ∙ sym (stores_by c (entries (part c)))
      ∙ ap (filter (is_by c)) (g.own c l)
      ∙ by_own c (writes_of seed c writes v) (writes_by seed c writes v);
}
