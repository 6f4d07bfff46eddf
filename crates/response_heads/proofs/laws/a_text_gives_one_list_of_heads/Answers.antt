use Rattle.response_heads.proofs.UniqueLemmas.{one_list}
use Rattle.response_heads.proofs.laws.a_text_gives_one_list_of_heads.Goals as goal

pub returns : goal.returns
returns c = λ text heads others stop other a b. one_list text heads others stop other a b
