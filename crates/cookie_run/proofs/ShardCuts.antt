-- A client is the clients of the shards.
use Rattle.std.proofs.Common.{[], refl}
use Rattle.cookie_store.specs.Laws.{GivenOnce, OneOrder}
use Rattle.cookie_client.proofs.ReadOnce.{ReadsOnce}
use Rattle.cookie_run.specs.ShardCut.{ShardsAreTheClient, ShardClient}
use Rattle.cookie_run.proofs.ShardRuns.{Runs, both_play, same_header}
use Rattle.cookie_run.proofs.ShardPresence.{header_there}

pub shards_cut : ReadsOnce → GivenOnce → OneOrder → ShardsAreTheClient
shards_cut one given_once order b list key acts told rows p named shard none = record {
  same_rows = λ alone. (runs alone).picked;
  same_header = λ alone url at header other is plain h g.
      same_header one list shard given_once order url at rows alone.rows header other plain is (runs alone) h g;
  there = λ url at header is plain h.
      header_there b order list key acts told rows shard p named none url at header is plain h;
}
  where
    runs : (alone : ShardClient list key shard acts) → Runs one list shard rows alone.rows
    runs alone =
        both_play one list shard b key acts alone.few told alone.told [] [] rows alone.rows named none alone.only p
        alone.ran (record { picked = refl; sound = tt; rest_sound = tt })
