mod Ran
mod Conns
mod Disks
mod Settles
