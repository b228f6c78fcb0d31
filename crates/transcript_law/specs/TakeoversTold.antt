-- what the lines tell of a link that may take a vBucket over, beside what they tell of each link
use Rattle.std.specs.Prelude.{ℕ, ◌+◌, nat_lt, if◌then◌else◌, Bool, false}

-- what is known of the state that was put last on a link: nothing more; that its consumer obeyed it, as it told of its vBucket's role; and that all was moved up the link since, so that its answer came
pub data Obeyed : Type 0 where
  Put : Obeyed
  Obeys : Obeyed
  Answered : Obeyed

-- whether a link was dialed for a takeover; whether the vBucket that feeds it got a role since its stream was granted, and before the stream's end was put, by which it was not given up over this link; how many bytes were moved up since a state was put, and since its consumer told of a role; and what is known of the last state
pub record TakeoverKnown : Type 0 where
  pub dialed : Bool
  pub turned : Bool
  pub moved : ℕ
  pub obeyed : Obeyed

-- as it was dialed
abbrev pub dialed_for : Bool → TakeoverKnown
dialed_for takeover = record { dialed = takeover; turned = false; moved = 0; obeyed = Put }

-- one more state was put
abbrev pub with_state : TakeoverKnown → TakeoverKnown
with_state t = record t { moved = 0; obeyed = Put }

-- the consumer told of its role
abbrev pub with_role : TakeoverKnown → TakeoverKnown
with_role t = record t { moved = 0; obeyed = Obeys }

-- all that there was to be moved up was moved up
abbrev pub with_all_moved : Obeyed → Obeyed
with_all_moved Put = Put
with_all_moved Obeys = Answered
with_all_moved Answered = Answered

-- so many bytes were moved up, where so many were asked for: fewer are all that there were
abbrev pub with_moved : ℕ → ℕ → TakeoverKnown → TakeoverKnown
with_moved wanted n t = record t { moved = t.moved + n; obeyed = if nat_lt n wanted then with_all_moved t.obeyed else t.obeyed }
