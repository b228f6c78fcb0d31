-- what is kept once several changes of the vBucket's own are made
use Rattle.std.proofs.Common.{◌≡◌, ◌<◌, List, [], ◌∷◌, length, get_or, refl, ap, sym, ◌∙◌, arith}
use Rattle.std.specs.Prelude.{◌-◌, suc}
use Rattle.std.specs.List.{fold}
use Rattle.vb_types.specs.Images.{applied}
use Rattle.vb_types.specs.declared.change.Change.{Change}
use Rattle.vb_types.specs.declared.position.Position.{Position}
use Rattle.vb_types.specs.declared.role.Role.{Role}
use Rattle.vb_calls.specs.declared.span.Origin.TheVariants.{Own}
use Rattle.vb_calls.specs.declared.stream.Stream.{Stream}
use Rattle.vb_calls.specs.State.{complete_position}
use Rattle.ckpt_list.specs.Lists.{Ckpts, queued}
use Rattle.vbucket.specs.Kept.{Kept}
use Rattle.vbucket.specs.Settling.{waiting_behind, with_made, with_own}
use Rattle.vbucket.specs.Steady.{IsSteady}
use Rattle.vbucket.proofs.Steadying.{queued_steady}

-- where a vBucket stands after changes of its own
abbrev pub own_position : Position → List Change → Position
own_position p cs = fold (λ q c. complete_position c.seq) p cs

abbrev pub own_queued : Ckpts → List Change → Ckpts
own_queued l cs = fold (λ m c. queued m Own c) l cs

pub made_all : (k : Kept) (cs : List Change) → fold with_made k cs ≡ record { rest = record k.rest { base = fold applied k.rest.base cs; position = own_position k.rest.position cs }; list = own_queued k.list cs }
made_all k [] = refl
made_all k (c ∷ cs) = made_all (with_made k c) cs

pub own_all : (k : Kept) (cs : List Change)
    → fold with_own k cs ≡ record { rest = record k.rest { base = fold applied k.rest.base cs; position = own_position k.rest.position cs; waiting = fold waiting_behind k.rest.waiting cs }; list = own_queued k.list cs }
own_all k [] = refl
own_all k (c ∷ cs) = own_all (with_own k c) cs

-- changes that are made, and the prepares that they resolve
abbrev pub with_resolves : List Change → Kept → Kept
with_resolves cs k = record k { rest = record k.rest { waiting = fold waiting_behind k.rest.waiting cs } }

pub own_of : (k : Kept) (cs : List Change) → with_resolves cs (fold with_made k cs) ≡ fold with_own k cs
own_of k cs = ap (with_resolves cs) (made_all k cs) ∙ sym (own_all k cs)

-- the last of several changes
behind_first : (p : Position) (c : Change) (cs : List Change) (d : Change) → own_position p (c ∷ cs) ≡ complete_position (get_or (c ∷ cs) (length cs) d).seq
behind_first p c [] d = refl
behind_first p c (e ∷ cs) d = behind_first (complete_position c.seq) e cs d

pub last_position : (p : Position) (cs : List Change) (d : Change) → 0 < length cs → own_position p cs ≡ complete_position (get_or cs (length cs - 1) d).seq
last_position p [] d l = let k : 0 < 0 = l in absurd (omega arith)
last_position p (c ∷ cs) d l = behind_first p c cs d ∙ ap (λ n. complete_position (get_or (c ∷ cs) n d).seq) (let z : length cs ≡ suc (length cs) - 1 = omega arith in z)

-- a list that takes changes in stays steady
pub queued_all_steady : (role : Role) (p : Position) (l : Ckpts) (streams : List Stream) (cs : List Change) → IsSteady role p.at l streams → IsSteady role (own_position p cs).at (own_queued l cs) streams
queued_all_steady role p l streams [] is = is
queued_all_steady role p l streams (c ∷ cs) is = queued_all_steady role (complete_position c.seq) (queued l Own c) streams cs (queued_steady role p.at l streams Own c (queued l Own c) c.seq is refl refl)
