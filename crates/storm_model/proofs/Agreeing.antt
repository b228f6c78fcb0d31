-- histories in which each client's writes stand in the client's order
use Rattle.std.proofs.Common.{◌≡◌, ℕ, ◌+◌, ◌*◌, ◌<◌, ◌≤◌, ◌^◌, Bool, true, false, nat_le, ◌&&◌, List, [], ◌∷◌, ◌++◌, map, length, refl, ap, sym, ◌∙◌, subst, append_assoc, append-nil, length-append, arith}
use Rattle.std.specs.List.{filter, fold, AllByRecursion}
use Rattle.std.specs.FinMap as finite
use Rattle.std.proofs.lemmas.Bool.Decides.{nat_tests}
use Rattle.vb_types.specs.declared.position.TheConstants.{MAX_SEQ}
use Rattle.vb_types.specs.declared.write.Write.{Write}
use Rattle.vb_calls.specs.State.{Plain, image_in}
use Rattle.vb_calls.specs.declared.calls.VbCall.{VbCall}
use Rattle.vb_calls.specs.declared.calls.VbCall.TheVariants as call
use Rattle.vb_calls.specs.declared.calls.VbReply.{VbReply}
use Rattle.vb_calls.specs.Plain.{plain_step}
use Rattle.storm_model.specs.Histories.{HasOwner, IsPut, IsStormed, is_by, put_in, stores}
use Rattle.storm_model.specs.Ledgers.{ledger}
use Rattle.storm_model.specs.Limits.{is_storm}
use Rattle.storm_model.specs.Sums.{contents, from_start, in_turn, opened, storm_new, storm_vb, stored, value_sum}
use Rattle.storm_model.specs.Writes.{writes_of}
use Rattle.storm_model.specs.Laws.{AsInTurn, IsStorming, OrdersAgree, behind}
use Rattle.storm_model.proofs.Conduct.{Calm, call_made, new_calm}
use Rattle.storm_model.proofs.Ledgering.{same_by_keys}
use Rattle.storm_model.proofs.Owners.{all_owned, same_at_keys, same_length, turns_at, turns_owned, writes_by, writes_put}
use Rattle.storm_model.proofs.Shown.{contents_is}
use Rattle.storm_model.proofs.Sizes.{of_all}
use Rattle.storm_model.proofs.Storming.{stores_stand}

-- ---- the limits

pub record InLimits (clients writes : ℕ) : Type 0 where
  pub clients_low : 1 ≤ clients
  pub clients_high : clients ≤ 64
  pub writes_low : 1 ≤ writes
  pub writes_high : writes ≤ 1000000
  pub all : clients * writes ≤ 1000000

limits_by : (clients writes all : ℕ) (a b c d e : Bool) → nat_le 1 clients ≡ a → nat_le clients 64 ≡ b → nat_le 1 writes ≡ c → nat_le writes 1000000 ≡ d → nat_le all 1000000 ≡ e
    → (a && b && c && d && e) ≡ true → (1 ≤ clients) × (clients ≤ 64) × (1 ≤ writes) × (writes ≤ 1000000) × (all ≤ 1000000)
limits_by clients writes all true true true true true p q r s t is = (grind (arith, nat_tests), grind (arith, nat_tests), grind (arith, nat_tests), grind (arith, nat_tests), grind (arith, nat_tests))
limits_by clients writes all true true true true false p q r s t is = absurd (cc is)
limits_by clients writes all true true true false e p q r s t is = absurd (cc is)
limits_by clients writes all true true false d e p q r s t is = absurd (cc is)
limits_by clients writes all true false c d e p q r s t is = absurd (cc is)
limits_by clients writes all false b c d e p q r s t is = absurd (cc is)

pub in_limits : (clients writes : ℕ) → is_storm clients writes ≡ true → InLimits clients writes
in_limits clients writes is =
    let l = limits_by clients writes (clients * writes) (nat_le 1 clients) (nat_le clients 64) (nat_le 1 writes) (nat_le writes 1000000) (nat_le (clients * writes) 1000000) refl refl refl refl refl is in
    record { clients_low = l.0; clients_high = l.1; writes_low = l.2; writes_high = l.3; all = l.4 }

-- ---- the clients one after the other

stored_calm : (ws done : List Write) (vb : Plain) → AllByRecursion IsPut ws → Calm vb done → length done + length ws ≤ MAX_SEQ → Calm (fold stored vb ws) (done ++ ws)
stored_calm [] done vb puts calm l = subst (Calm vb) (sym (append-nil done)) calm
stored_calm (w ∷ ws) done vb puts calm l =
    let one : length (done ++ w ∷ []) ≡ length done + 1 = length-append done (w ∷ []) in
    let here = (call_made (call.Store w 0) vb done refl (puts.0, tt) calm (omega arith)).calm in
    subst (Calm (fold stored (stored vb w) ws)) (append_assoc done (w ∷ []) ws) (stored_calm ws (done ++ w ∷ []) (stored vb w) puts.1 here (omega arith))

pub opened_calm : (v : ℕ) → Calm (opened (storm_new v)) []
opened_calm v =
    let one = (call_made (call.OpenStream 1 from_start false) (storm_new v) [] refl tt (new_calm v) (omega arith)).calm in
    (call_made (call.OpenStream 2 from_start false) (plain_step (storm_new v) (call.OpenStream 1 from_start false)).0 [] refl tt one (omega arith)).calm

pub storm_calm : (v : ℕ) (ws : List Write) → AllByRecursion IsPut ws → length ws ≤ MAX_SEQ → Calm (storm_vb v ws) ws
storm_calm v ws puts l = stored_calm ws [] (opened (storm_new v)) puts (opened_calm v) (omega arith)

module _ (seed clients writes v : ℕ) (fits : is_storm clients writes ≡ true) where
  few : clients ≤ 2 ^ 64
  few = let l = in_limits clients writes fits in let k = l.clients_high in omega arith

  pub turn_owned : AllByRecursion (HasOwner clients) (in_turn seed clients writes v)
  turn_owned = turns_owned (λ c. writes_of seed c writes v) (λ c. writes_by seed c writes v) clients 0 clients (omega arith)

  pub turn_order : (c : ℕ) → c < clients → filter (is_by c) (in_turn seed clients writes v) ≡ writes_of seed c writes v
  turn_order c l = turns_at (λ c. writes_of seed c writes v) (λ c. writes_by seed c writes v) 0 clients c (let k = few in omega arith) (omega arith) (omega arith)

  pub puts_of : (ws : List Write) → AllByRecursion (HasOwner clients) ws → ((c : ℕ) → c < clients → filter (is_by c) ws ≡ writes_of seed c writes v) → AllByRecursion IsPut ws
  puts_of ws a f = all_owned IsPut clients ws a (λ c l. subst (AllByRecursion IsPut) (sym (f c l)) (writes_put seed c writes v))

  pub turn_room : length (in_turn seed clients writes v) ≤ MAX_SEQ
  turn_room = let l = in_limits clients writes fits in let k = l.all in let m = of_all seed writes clients v in omega (arith, k, m)

  pub turn_calm : Calm (storm_vb v (in_turn seed clients writes v)) (in_turn seed clients writes v)
  turn_calm = storm_calm v (in_turn seed clients writes v) (puts_of (in_turn seed clients writes v) turn_owned turn_order) turn_room

  pub turn_shown : contents (image_in (storm_vb v (in_turn seed clients writes v))) ≡ finite.entries (ledger (map put_in (in_turn seed clients writes v)))
  turn_shown = contents_is (image_in (storm_vb v (in_turn seed clients writes v))) (ledger (map put_in (in_turn seed clients writes v))) turn_calm.docs

  pub as_long : (ws : List Write) → AllByRecursion (HasOwner clients) ws → ((c : ℕ) → c < clients → filter (is_by c) ws ≡ writes_of seed c writes v) → length ws ≡ length (in_turn seed clients writes v)
  as_long ws a f = same_length (λ c. writes_of seed c writes v) clients ws (in_turn seed clients writes v) few a f turn_owned turn_order

  storming : (log : List (VbCall × VbReply)) → IsStormed seed clients writes v log → IsStorming v log
  storming log s = record {
    legal = s.legal;
    calls = s.calls;
    puts = puts_of (stores log) s.owned s.order;
    room = let n = as_long (stores log) s.owned s.order in let m = turn_room in omega (arith, n, m);
  }

  leaves : (log : List (VbCall × VbReply)) → IsStormed seed clients writes v log → contents (image_in (behind v log)) ≡ contents (image_in (storm_vb v (in_turn seed clients writes v)))
  leaves log s = stores_stand.shown v log (storming log s)
      ∙ ap finite.entries (same_by_keys (map put_in (stores log)) (map put_in (in_turn seed clients writes v))
      (same_at_keys (λ c. writes_of seed c writes v) clients (stores log) (in_turn seed clients writes v) s.owned s.order turn_owned turn_order))
      ∙ sym turn_shown

  reaches : (log : List (VbCall × VbReply)) → IsStormed seed clients writes v log → (behind v log).position.at ≡ (storm_vb v (in_turn seed clients writes v)).position.at
  reaches log s = stores_stand.high v log (storming log s) ∙ as_long (stores log) s.owned s.order ∙ sym turn_calm.high

  pub orders_agree : OrdersAgree seed clients writes v
  orders_agree = record {
    shown = λ log other s t. leaves log s ∙ sym (leaves other t);
    high = λ log other s t. reaches log s ∙ sym (reaches other t);
    made = λ log s. stores_stand.made v log (storming log s);
  }

  pub as_in_turn : (log : List (VbCall × VbReply)) → IsStormed seed clients writes v log → AsInTurn seed clients writes v log
  as_in_turn log s = record {
    shown = leaves log s;
    high = reaches log s;
    line_high = reaches log s;
    line_docs = ap length (leaves log s);
    line_sum = ap value_sum (leaves log s);
  }
