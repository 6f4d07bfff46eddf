use Rattle.seal.proofs.RegisterLemmas.{places_ok, picks}
use Rattle.seal.proofs.registers.shuffled.Goals as goal

pub swizzle : goal.swizzle
swizzle c = places_ok c.args.places c.fits-places

pub returns : goal.returns
returns c = picks c.args.table c.args.places c.fits-places
