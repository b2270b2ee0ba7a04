-- The step rules of 01, section 'State and step rules', in its order. Each rule has its number (0 where the step is allowed, else the
-- refusal) and the configuration after it. Instances are numbered i, places p, transitions x, ports q, behaviors b; k is a type or a
-- connection, v and w are an instance before and after, x is which connections stand.
pub mod Refusal
pub mod Closing
pub mod Instance
pub mod Standing
pub mod Ports
pub mod Tickets
pub mod Add
pub mod Del
pub mod PushB
pub mod Con
pub mod DCon
pub mod Wait
pub mod Fire
pub mod End
pub mod Enter
pub mod Finish
pub mod Action
pub mod Step
pub mod Walk
pub mod Listed
pub mod Refused
pub mod Proper
pub mod Holding
pub mod Named
