-- lines of most tests close no client's connection
use Rattle.std.specs.Prelude.{◌≡◌}
use Rattle.transcript_law.proofs.Words.{ℕ, Bool, true, not, refl, Option, Some, None, Chronicle, Event, LinkVerb, VbVerb}
use Rattle.transcript_law.specs.{Breaks.{is_closing}, LinesTold.{Dial}, Tellings.{at_link, at_vb, is_none, is_of_pull, is_of_start}}

-- a line tells of no connection that closed
abbrev pub is_none_closing : Event → Bool
is_none_closing line = not (is_closing line)

pub none_unclosed : (line : Event) → is_none line ≡ true → is_none_closing line ≡ true
none_unclosed (Event.Closed m c) e = e
none_unclosed other e = refl

pub take_unclosed : (r : Chronicle) (n v : ℕ) (line : Event) → at_vb r n v VbVerb.Take line ≡ true → is_none_closing line ≡ true
take_unclosed r n v (Event.Closed m c) e = e
take_unclosed r n v other e = refl

pub stat_unclosed : (r : Chronicle) (n v : ℕ) (line : Event) → at_vb r n v VbVerb.Stat line ≡ true → is_none_closing line ≡ true
stat_unclosed r n v (Event.Closed m c) e = e
stat_unclosed r n v other e = refl

pub log_unclosed : (r : Chronicle) (n v : ℕ) (line : Event) → at_vb r n v VbVerb.Log line ≡ true → is_none_closing line ≡ true
log_unclosed r n v (Event.Closed m c) e = e
log_unclosed r n v other e = refl

pub show_unclosed : (r : Chronicle) (n v : ℕ) (line : Event) → at_vb r n v VbVerb.Show line ≡ true → is_none_closing line ≡ true
show_unclosed r n v (Event.Closed m c) e = e
show_unclosed r n v other e = refl

pub pull_unclosed : (n c : ℕ) (line : Event) → is_of_pull n c line ≡ true → is_none_closing line ≡ true
pull_unclosed n c (Event.Closed m d) e = e
pull_unclosed n c other e = refl

pub drop_unclosed : (dial : Option Dial) (l : ℕ) (line : Event) → at_link dial l LinkVerb.Drop line ≡ true → is_none_closing line ≡ true
drop_unclosed None l line e = none_unclosed line e
drop_unclosed (Some dial) l line e = none_unclosed line e

pub cut_unclosed : (dial : Option Dial) (l : ℕ) (line : Event) → at_link dial l LinkVerb.Cut line ≡ true → is_none_closing line ≡ true
cut_unclosed None l line e = none_unclosed line e
cut_unclosed (Some dial) l (Event.Closed m c) e = e
cut_unclosed (Some dial) l other e = refl

pub start_unclosed : (n : ℕ) (line : Event) → is_of_start n line ≡ true → is_none_closing line ≡ true
start_unclosed n (Event.Closed m c) e = e
start_unclosed n other e = refl
