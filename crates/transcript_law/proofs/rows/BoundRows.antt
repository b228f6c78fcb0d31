-- lines that are bound to be refused, judged by hand
use Rattle.std.specs.Prelude.{◌≡◌, ◌∷◌}
use Rattle.transcript_law.proofs.Words.{ℕ, false, List, [], refl, sym, subst, inl, inr, ⊎_elim, Answer, Cause, Event, Chronicle, Verb, LawfulAnswer}
use Rattle.transcript_law.specs.Bound.{IsBound, bound_by}
use Rattle.transcript_law.specs.BoundRows.{IsRefusedFor, IsRefusedForOne, LawfulHere}
use Rattle.transcript_law.specs.{Firings.{FiresInLine}, LinesTold.{at_line}}
use Rattle.transcript_law.specs.Standing.{IsStanding}
use Rattle.transcript_law.proofs.verbs.Handing.{refused_none}
use Rattle.transcript_law.proofs.rows.{AskedTests.{refused_asked}, Groups.{nothing_closed}, Silent.{refused_shut}, Ended.{refused_ended}}

module _ (chronicle : Chronicle) (line : Verb) where
  -- what the causes for which it is bound say of it
  bound : (whys : List Cause) (lines : List Event) (said : Answer) → bound_by chronicle line ≡ whys → LawfulHere chronicle line (lines, said) → IsBound whys (LawfulAnswer chronicle line lines said) lines said
  bound whys lines said e l = subst (λ b. IsBound b (LawfulAnswer chronicle line lines said) lines said) e l.0.1

  silent : (why : Cause) (more : List Cause) (first : Event) (lines : List Event) (said : Answer) → bound_by chronicle line ≡ why ∷ more → LawfulHere chronicle line (first ∷ lines, said) → ⊥
  silent why more first lines said e l = let z : first ∷ lines ≡ [] = (bound (why ∷ more) (first ∷ lines) said e l).0 in cc

  pub refused_for : ((n c : ℕ) → chronicle.conn_at n c ≡ false) → (why : Cause) → IsStanding why → bound_by chronicle line ≡ why ∷ [] → FiresInLine chronicle line [] (Answer.No why) → IsRefusedFor chronicle why line
  refused_for shut why stands e fires = record {
    refused = ((tt, subst (λ b. IsBound b (LawfulAnswer chronicle line [] (Answer.No why)) [] (Answer.No why)) (sym e) (refl, inl refl), fires, refl, (λ w is standing. refl), refused_none (at_line chronicle 1) line why, refused_asked line why stands, tt, refused_shut (at_line chronicle 1) line why shut, tt, nothing_closed (at_line chronicle 1) line, refused_ended (at_line chronicle 1) line why), tt);
    another = λ said other l. ⊎_elim other (λ x. x) (bound (why ∷ []) said.0 said.1 e l).1;
    tells = λ first lines said l. silent why [] first lines said e l;
  }

  pub refused_for_one : ((n c : ℕ) → chronicle.conn_at n c ≡ false) → (why other : Cause) → IsStanding why → IsStanding other → bound_by chronicle line ≡ why ∷ other ∷ [] → FiresInLine chronicle line [] (Answer.No why) → FiresInLine chronicle line [] (Answer.No other) → IsRefusedForOne chronicle why other line
  refused_for_one shut why other stands also_stands e fires also = record {
    refused = ((tt, subst (λ b. IsBound b (LawfulAnswer chronicle line [] (Answer.No why)) [] (Answer.No why)) (sym e) (refl, inl refl), fires, refl, (λ w is standing. refl), refused_none (at_line chronicle 1) line why, refused_asked line why stands, tt, refused_shut (at_line chronicle 1) line why shut, tt, nothing_closed (at_line chronicle 1) line, refused_ended (at_line chronicle 1) line why), tt);
    refused_so = ((tt, subst (λ b. IsBound b (LawfulAnswer chronicle line [] (Answer.No other)) [] (Answer.No other)) (sym e) (refl, inr (inl refl)), also, refl, (λ w is standing. refl), refused_none (at_line chronicle 1) line other, refused_asked line other also_stands, tt, refused_shut (at_line chronicle 1) line other shut, tt, nothing_closed (at_line chronicle 1) line, refused_ended (at_line chronicle 1) line other), tt);
    another = λ said no nor l. ⊎_elim no (λ x. ⊎_elim nor (λ y. y) x) (bound (why ∷ other ∷ []) said.0 said.1 e l).1;
    tells = λ first lines said l. silent why (other ∷ []) first lines said e l;
  }
