use Rattle.place_index.proofs.NameLemmas.{domain_ended, path_ended, path_shrunk}
use Rattle.place_index.proofs.laws.removals.Goals as goal

pub returns : goal.returns
returns c = record {
  domain = λ rows row p old new agrees there b. domain_ended rows row p old new agrees there b;
  path = λ rows row p old new agrees there b. path_ended rows row p old new agrees there b;
  row = λ rows row p old new agrees there b. path_shrunk rows row p old new agrees there b;
}
