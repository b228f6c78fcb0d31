use Rattle.std.proofs.Common.{◌≡◌, ℕ, suc, ◌+◌, ◌<◌, ◌++◌, ◌∷◌, [], List, length, map, take, get_or, set, refl, sym, ap, ◌∙◌, subst, arith, append_assoc, append-nil, length-append}
use Rattle.vb_calls.specs.declared.calls.VbCall.{VbCall}
use Rattle.vb_types.specs.declared.role.Role.TheVariants.{Active}
use Rattle.vb_calls.specs.Plain.{new_vb, plain_step}
use Rattle.vb_turn.specs.Seats.{Called}
use Rattle.vb_turn.specs.Turning.{opened}
use Rattle.vb_turn.specs.Words.{view}
use Rattle.vbucket.specs.Highs.{high_of}
use Rattle.vbucket.specs.Stands.{StandsFor}
use Rattle.storm_seats.proofs.Gathered.{readers_open}
use Rattle.node_threads.specs.Seats.{VbView}
use Rattle.storm.proofs.opening.open_vb.Goals as goal

pub returns : goal.returns
returns g c =
    let vb = c.in_ok-vb.vb in
    let x : VbView = view c.call.new.seat in
    let y : VbView = view c.call-2.new.seat in
    let first : Called StandsFor plain_step high_of (opened vb) (_, c.in_ok-call.field-0) x =
    subst (λ (w : VbView). Called StandsFor plain_step high_of w (_, c.in_ok-call.field-0) x) c.in_ok-turn.ensures.1 (subst (λ (k : VbCall). Called StandsFor plain_step high_of (view c.in_ok-turn.seat) (k, c.in_ok-call.field-0) x) c.opens.ensures c.in_ok-call.ensures.ok) in
    let second = subst (λ (k : VbCall). Called StandsFor plain_step high_of x (k, c.in_ok-call-2.field-0) y) c.opens-2.ensures c.in_ok-call-2.ensures.ok in
    let r = readers_open StandsFor high_of c.args.v vb x y c.in_ok-call.field-0 c.in_ok-call-2.field-0 (subst (λ n. StandsFor vb (new_vb 0 Active (n + 1))) c.from.ensures c.in_ok-vb.ensures) first second in
    record { number = refl; seen = r.0; gathers = r.1 }
