-- Nodes whose prices stand elsewhere.
use Rattle.std.specs.Prelude.{Option, None, Some}
use Rattle.model_rosters.specs.declared.instance.Prices.{Prices}
use Rattle.check_certificates.specs.declared.cert.Node.{Node}
use Rattle.check_certificates.specs.declared.cert.Node.TheVariants as nodes
use Rattle.check_proofs.specs.declared.node.PricesView.{PricesView}
use Rattle.check_proofs.specs.declared.node.NodeView.{NodeView}
use Rattle.check_proofs.specs.declared.node.NodeView.TheVariants as views

-- the prices that the parts make
abbrev pub prices_of : PricesView → Prices
prices_of p = record { d = p.d; cell = p.cell.now; mult = p.mult.now }

abbrev pub own_prices : Option PricesView → Option Prices
own_prices None = None
own_prices (Some p) = Some (prices_of p)

-- the node that is seen
abbrev pub node_of : NodeView → Node
node_of (views.Split arc b prices) = nodes.Split arc b (own_prices prices)
node_of (views.Priced prices) = nodes.Priced (prices_of prices)
node_of views.Pinned = nodes.Pinned
node_of views.Bare = nodes.Bare
