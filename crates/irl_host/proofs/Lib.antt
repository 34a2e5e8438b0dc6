mod Hosts
mod Targets
mod Texts
