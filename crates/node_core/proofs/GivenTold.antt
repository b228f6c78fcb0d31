-- what connections are told of vBuckets that were given up, one after the other
use Rattle.std.proofs.Common.{◌≡◌, refl, ℕ, List, [], ◌∷◌, ◌++◌, Option, Some, None, ap, sym, ◌∙◌, subst}
use Rattle.std.specs.Prelude.{◌≢◌}
use Rattle.std.specs.Option.{option_map}
use Rattle.std.proofs.lemmas.List.Sums.{fold-append}
use Rattle.slab.specs.Slab.{Slab, get, Updates}
use Rattle.dcp_producer.specs.declared.yields.Yielded.{Yielded}
use Rattle.node_core.specs.declared.conn.Conn.{Conn}
use Rattle.node_core.specs.GivingUp.{conn_given, told_one}

-- all connections are told of these
pub record GivenSo (given : List Yielded) (old now : Slab Conn) : Type 0 where
  pub told : (k : ℕ) → get now k ≡ option_map (conn_given given) (get old k)

same : (o : Option Conn) → o ≡ option_map (conn_given []) o
same None = refl
same (Some c) = refl

-- of none
pub given_none : (conns : Slab Conn) → GivenSo [] conns conns
given_none conns = record { told = λ k. same (get conns k) }

behind : (given : List Yielded) (one : Yielded) (o : Option Conn) → option_map (λ c. told_one c one) (option_map (conn_given given) o) ≡ option_map (conn_given (given ++ one ∷ [])) o
behind given one None = refl
behind given one (Some c) = ap Some (sym (fold-append told_one c given (one ∷ [])))

-- of one more
pub given_more : (given : List Yielded) (one : Yielded) (old now next : Slab Conn) → GivenSo given old now → ((k : ℕ) → get next k ≡ option_map (λ c. told_one c one) (get now k)) → GivenSo (given ++ one ∷ []) old next
given_more given one old now next so told = record {
  told = λ k. told k ∙ ap (option_map (λ c. told_one c one)) (so.told k) ∙ behind given one (get old k);
}
