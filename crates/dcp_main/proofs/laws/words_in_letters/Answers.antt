use Rattle.dcp_main.proofs.Letters.{letters_made, letters_one, letters_run}
use Rattle.dcp_main.proofs.StormLetters.{letters_apart, letters_first, letters_others, letters_storm}
use Rattle.dcp_main.proofs.laws.words_in_letters.Goals as goal

pub returns : goal.returns
returns c = record {
  run = letters_run;
  made = letters_made;
  one = letters_one;
  storm = letters_storm;
  first = letters_first;
  apart = letters_apart;
  others = letters_others;
}
