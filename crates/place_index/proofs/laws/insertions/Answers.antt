use Rattle.place_index.proofs.NameLemmas.{domain_begun, path_begun, path_grown}
use Rattle.place_index.proofs.laws.insertions.Goals as goal

pub returns : goal.returns
returns c = record {
  domain = λ rows row p old new agrees small at b. domain_begun rows row p old new agrees small at b;
  path = λ rows row p old new agrees small b. path_begun rows row p old new agrees small b;
  row = λ rows row p old new agrees small b. path_grown rows row p old new agrees small b;
}
