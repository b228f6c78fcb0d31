-- a history of each storm
use Rattle.std.proofs.Common.{◌≡◌, ℕ, ◌<◌, true, List, [], ◌∷◌, ◌++◌, map, refl, sym, ap, ◌∙◌, subst}
use Rattle.std.specs.List.{AllByRecursion, filter}
use Rattle.vb_types.specs.declared.write.Write.{Write}
use Rattle.vb_calls.specs.declared.calls.VbCall.{VbCall}
use Rattle.vb_calls.specs.declared.calls.VbCall.TheVariants as call
use Rattle.vb_calls.specs.Plain.{Plain, plain_step}
use Rattle.vb_turn.specs.History.{Legal}
use Rattle.storm_model.specs.Histories.{AreStormCalls, HasOwner, IsStormed, is_by, stores}
use Rattle.storm_model.specs.Limits.{is_storm}
use Rattle.storm_model.specs.Sums.{in_turn, storm_new}
use Rattle.storm_model.specs.Writes.{writes_of}
use Rattle.storm_model.proofs.Agreeing.{turn_order, turn_owned}
use Rattle.storm_seats.specs.Laws.{StormsHappen}
use Rattle.storm_seats.specs.Views.{Entry}

-- these writes are stored, and answered
abbrev answered : Plain → List Write → List Entry
answered s [] = []
answered s (w ∷ ws) = (call.Store w 0, (plain_step s (call.Store w 0)).1) ∷ answered (plain_step s (call.Store w 0)).0 ws

legal : (s : Plain) (ws : List Write) → Legal plain_step s (answered s ws)
legal s [] = tt
legal s (w ∷ ws) = (refl, legal (plain_step s (call.Store w 0)).0 ws)

calls : (s : Plain) (ws : List Write) → AreStormCalls (answered s ws)
calls s [] = tt
calls s (w ∷ ws) = (refl, calls (plain_step s (call.Store w 0)).0 ws)

written : (s : Plain) (ws : List Write) → stores (answered s ws) ≡ ws
written s [] = refl
written s (w ∷ ws) = ap (λ t. w ∷ t) (written (plain_step s (call.Store w 0)).0 ws)

pub storms_happen : (seed clients writes v : ℕ) → is_storm clients writes ≡ true → StormsHappen seed clients writes v
storms_happen seed clients writes v fits =
    let ws = in_turn seed clients writes v in
    let same : ws ≡ stores (answered (storm_new v) ws) = sym (written (storm_new v) ws) in (
      answered (storm_new v) ws,
      record {
        legal = legal (storm_new v) ws;
        calls = calls (storm_new v) ws;
        owned = subst (AllByRecursion (HasOwner clients)) same (turn_owned seed clients writes v fits);
        order = λ c l. ap (filter (is_by c)) (written (storm_new v) ws) ∙ turn_order seed clients writes v fits c l;
      },
      written (storm_new v) ws,
    )
