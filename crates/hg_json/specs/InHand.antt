-- What each graph in hand has, and what else a graph needs to be read back from its text.
use Rattle.std.specs.Prelude.{◌<◌, ◌≤◌, ◌^◌, ℕ, ℤ, pos, negsuc, List, length, IsUtf8, ⊤}
use Rattle.std.specs.List.{All, AllByRecursion}
use Rattle.hg_ops.specs.GraphType.{GraphType}
use Rattle.hg_ops.specs.Op.{Types, Op, FuncDefn, Const, Input, Output, Dfg, Cfg, DataflowBlock, ExitBlock, Conditional, Case, TailLoop, Tag, Call, CallIndirect, LoadFunction, Ext, ResultInt, ResultBool, Unpack}
use Rattle.hg_graph.specs.Graph.{Link, Ports, Order, Graph}
use Rattle.hg_json.specs.TypeText.{HasText, brackets, most_brackets}

-- a whole number of 64 bits with a sign
abbrev pub IsSigned : ℤ → Type 0
IsSigned (pos n) = n < 2 ^ 63
IsSigned (negsuc n) = n < 2 ^ 63

-- names and the tags of results are texts, and numbers have 64 bits
abbrev pub HasBounds : Op → Type 0
HasBounds (FuncDefn name ins outs) = IsUtf8 name
HasBounds (Const value) = IsSigned value
HasBounds (Tag rows tag) = tag < 2 ^ 64
HasBounds (Ext (ResultInt tag)) = IsUtf8 tag
HasBounds (Ext (ResultBool tag)) = IsUtf8 tag
HasBounds _ = ⊤

-- the nodes of a link are among `total` nodes
abbrev pub IsWithin : ℕ → Link → Type 0
IsWithin total (Ports from to) = (from.node < total) × (to.node < total)
IsWithin total (Order before after) = (before < total) × (after < total)

-- the numbers of ports have 64 bits
abbrev pub HasPorts : Link → Type 0
HasPorts (Ports from to) = (from.index < 2 ^ 64) × (to.index < 2 ^ 64)
HasPorts (Order before after) = ⊤

-- the graph has a node, and fewer than 2 ^ 64; each parent and each end of a link is one of them
pub record IsInHand (g : Graph) : Type 0 where
  pub some : 0 < length g.nodes
  pub few : length g.nodes < 2 ^ 64
  pub parents_in : All (λ node. node.parent < length g.nodes) g.nodes
  pub bounds : All (λ node. HasBounds node.op) g.nodes
  pub ends_in : All (IsWithin (length g.nodes)) g.links
  pub ports : All HasPorts g.links

-- each Sum in the type has a row, and no more brackets are open at once than reading allows
pub record IsSpelled (t : GraphType) : Type 0 where
  pub text : HasText t
  pub shallow : brackets t ≤ most_brackets

abbrev pub RowIsSpelled : Types → Type 0
RowIsSpelled = AllByRecursion IsSpelled

abbrev pub RowsAreSpelled : List Types → Type 0
RowsAreSpelled = AllByRecursion RowIsSpelled

-- the types that an op has
abbrev pub HasSpelledTypes : Op → Type 0
HasSpelledTypes (FuncDefn name ins outs) = RowIsSpelled ins × RowIsSpelled outs
HasSpelledTypes (Input types) = RowIsSpelled types
HasSpelledTypes (Output types) = RowIsSpelled types
HasSpelledTypes (Dfg ins outs) = RowIsSpelled ins × RowIsSpelled outs
HasSpelledTypes (Cfg ins outs) = RowIsSpelled ins × RowIsSpelled outs
HasSpelledTypes (DataflowBlock ins rows others) = RowIsSpelled ins × RowsAreSpelled rows × RowIsSpelled others
HasSpelledTypes (ExitBlock types) = RowIsSpelled types
HasSpelledTypes (Conditional rows ins outs) = RowsAreSpelled rows × RowIsSpelled ins × RowIsSpelled outs
HasSpelledTypes (Case ins outs) = RowIsSpelled ins × RowIsSpelled outs
HasSpelledTypes (TailLoop again leave rest) = RowIsSpelled again × RowIsSpelled leave × RowIsSpelled rest
HasSpelledTypes (Tag rows tag) = RowsAreSpelled rows
HasSpelledTypes (Call ins outs) = RowIsSpelled ins × RowIsSpelled outs
HasSpelledTypes (CallIndirect ins outs) = RowIsSpelled ins × RowIsSpelled outs
HasSpelledTypes (LoadFunction ins outs) = RowIsSpelled ins × RowIsSpelled outs
HasSpelledTypes (Ext (Unpack types)) = RowIsSpelled types
HasSpelledTypes _ = ⊤

-- the types that the ops of a graph have
abbrev pub AreSpelled : Graph → Type 0
AreSpelled g = All (λ node. HasSpelledTypes node.op) g.nodes
