use Rattle.place_index.proofs.CandidateLemmas.{are_domains, are_paths, domains_of-count, paths_of-count}
use Rattle.place_index.proofs.laws.candidates.Goals as goal

pub returns-clause-domains : goal.returns-clause-domains
returns-clause-domains c = are_domains

pub returns-clause-paths : goal.returns-clause-paths
returns-clause-paths c = are_paths

pub returns-clause-counted : goal.returns-clause-counted
returns-clause-counted c = record {
  domains = domains_of-count;
  paths = paths_of-count;
}
