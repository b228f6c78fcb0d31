-- which features a client gets of those that it asks for
use Rattle.std.specs.Prelude.{◌≢◌, ◌↔◌, ℕ, ◌<◌, ◌≤◌, ◌^◌, ◌==◌, List, length}
use Rattle.std.specs.Int.{w16, to_be_bytes}
use Rattle.std.specs.List.{All, AllPairs, Contains, flat_map, position_or_len}
use Rattle.mcbp_kv.specs.Features.{feature_code, accepted}
use Rattle.mcbp_kv.specs.declared.feature.Feature.{Feature}

-- numbers of two bytes each
abbrev pub code_bytes : List ℕ → List ℕ
code_bytes codes = flat_map (λ code. to_be_bytes w16 code) codes

-- where a feature's number first stands
abbrev pub first_place : List ℕ → Feature → ℕ
first_place codes f = position_or_len (λ code. code == feature_code f) codes

-- each feature once, exactly those whose numbers are asked for, in the order in which these first stand
pub record AreThose (codes : List ℕ) (features : List Feature) : Type 0 where
  pub once : AllPairs (λ f g. f ≢ g) features
  pub asked : (f : Feature) → Contains features f ↔ Contains codes (feature_code f)
  pub in_order : AllPairs (λ f g. first_place codes f < first_place codes g) features

-- what is accepted of any numbers of two bytes
abbrev pub AcceptsThose : Type 0
AcceptsThose = (codes : List ℕ) → All (λ code. code < 2 ^ 16) codes → AreThose codes (accepted (code_bytes codes))

-- there are four features
abbrev pub AcceptsFew : Type 0
AcceptsFew = (value : List ℕ) → length (accepted value) ≤ 4
